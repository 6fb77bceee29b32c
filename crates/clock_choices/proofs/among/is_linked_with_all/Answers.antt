use Rattle.std.proofs.Common.{List, refl, subst}
use Rattle.std.proofs.lemmas.List.Elements.{All-more}
use Rattle.session_clocks.specs.Reach.{Reaches}
use Rattle.clock_choices.specs.declared.runs.Run.{Run}
use Rattle.clock_choices.specs.Picks.{IsLinkedWithAll, IsLinkedWithRun}
use Rattle.clock_choices.proofs.Settled.{take_all}
use Rattle.clock_choices.proofs.among.is_linked_with_all.Goals as goal

pub loop-run-preserved : goal.loop-run-preserved
loop-run-preserved c =
    let graph = c.args.graph.now in
    let R = Reaches graph.gone graph.received graph.arcs in
    let linked : IsLinkedWithRun R c.args.id c.run-item.result = c.is_linked_with_run.ensures.0 c.if-not-is_linked_with_run.false in
    All-more (IsLinkedWithRun R c.args.id) c.args.runs.now c.loop-run.run-index c.run-item.result c.loop-run-test.true c.loop-run.invariant (subst (λ (run : Run). IsLinkedWithRun R c.args.id run) c.run-item.is linked)

pub returns : goal.returns
returns c =
    let graph = c.args.graph.now in
    let R = Reaches graph.gone graph.received graph.arcs in (
      λ yes. subst (λ (runs : List Run). IsLinkedWithAll R runs c.args.id) (take_all c.args.runs.now c.loop-run.run-index c.loop-run-test.false) c.loop-run.invariant,
      λ all. refl,
    )
