use Rattle.std.proofs.Common.{◌∙◌, List, refl, sym, subst}
use Rattle.std.proofs.lemmas.Bool.{false≢true}
use Rattle.clock_choices.specs.Index.{IsInRuns}
use Rattle.clock_choices.specs.declared.runs.Run.{Run}
use Rattle.clock_choices.proofs.Settled.{not_in_more, take_all}
use Rattle.clock_choices.proofs.index.is_in_runs.Goals as goal
use Rattle.clock_choices.proofs.index.is_in_runs.Goals.{else-run-id-via-then-run-id+else-has_number, else-run-id-via-else-run-id}

pub returns-then-has_number : goal.returns-then-has_number
returns-then-has_number c = (
  λ e. (c.run-item.result, (c.loop-run.run-index, c.loop-run-test.true, sym c.run-item.is), c.if-run-id.true, (rw c.deref.ensures.value at c.has_number.ensures).0 c.if-has_number.true),
  λ found. refl,
)

pub loop-run-preserved : goal.loop-run-preserved
loop-run-preserved c = not_in_more c.args.runs.now c.loop-run.run-index c.run-item.result c.args.id c.loop-run-test.true c.run-item.is c.loop-run.invariant
    (elim c.else-run-id.branch [
      | else-run-id-via-then-run-id+else-has_number w ↦ λ same there. false≢true (sym w.if-has_number.false ∙ (rw w.deref.ensures.value at w.has_number.ensures).1 there)
      | else-run-id-via-else-run-id w ↦ λ same there. w.if-run-id.false same
    ])

pub returns : goal.returns
returns c = (
  λ e. absurd (false≢true e),
  λ found. absurd (c.loop-run.invariant (subst (λ (runs : List Run). IsInRuns runs c.args.id) (sym (take_all c.args.runs.now c.loop-run.run-index c.loop-run-test.false)) found)),
)
