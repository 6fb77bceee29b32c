use Rattle.std.proofs.Common.{◌≡◌, ◌∙◌, ◌++◌, List, take, ap, sym, subst}
use Rattle.std.proofs.lemmas.List.Elements.{All-take}
use Rattle.txn.specs.Arcs.{start_of, end_of}
use Rattle.txn.specs.declared.choices.Arc.{Arc}
use Rattle.order_check.specs.Cycles.{IsCycle}
use Rattle.clock_choices.specs.Cycling.{AreLookedUp}
use Rattle.clock_choices.specs.Logging.{HasRight}
use Rattle.clock_choices.proofs.OwnCycles.{cycle_back}
use Rattle.clock_choices.proofs.acyclic.cycle_through.Goals as goal

pub returns : goal.returns
returns c = λ sides right.
    let graph = c.args.graph.now in
    let path : List Arc = c.in_ok-path.path in
    let (front, id, leads) = c.in_ok-path.ensures in
    let (more, same, are) = c.in_ok-push_right_arcs.ensures in
    let whole : c.new.result ≡ more = c.new.ensures ∙ same ∙ ap (λ (xs : List Arc). xs ++ more) c.new-cycle.ensures.items in
    let looked = subst (λ (p : List Arc). AreLookedUp c.args.parts.now p more) c.as_slice.ensures are in
    let some = All-take (λ (arc : Arc). HasRight c.args.parts.now sides (start_of arc) (end_of arc)) front graph.arcs right in
    subst (λ (cycle : List Arc). IsCycle c.args.parts.now sides cycle) (sym whole) (cycle_back c.args.parts.now graph.gone graph.received (take front graph.arcs) id path more c.requires.over leads looked sides some)
