use Rattle.std.proofs.Common.{◌≡◌, ◌∙◌, ◌++◌, ◌∷◌, [], List, Option, take, ap, subst}
use Rattle.std.specs.Prelude.{MatchOption}
use Rattle.txn.specs.declared.choices.Arc.{Arc}
use Rattle.txn.specs.declared.choices.Arc.TheVariants.{Taken}
use Rattle.session_clocks.specs.Paths.{IsPathOf}
use Rattle.session_clocks.specs.Reach.{Reaches}
use Rattle.clock_choices.specs.Cycling.{AreLookedUp}
use Rattle.clock_choices.specs.Steps.{premise}
use Rattle.clock_choices.proofs.Cyclings.{cycle_found, premise_there}
use Rattle.clock_choices.proofs.cycles.cycle_of_step.Goals as goal

pub path_within-requires-clause-from : goal.path_within-requires-clause-from
path_within-requires-clause-from c =
    let (taken, over, is) = c.requires in
    rw c.premise.ensures (premise_there c.args.parts.now c.args.graph.now.gone c.args.graph.now.received c.args.step over is.choice_of).0

pub path_within-requires-clause-to : goal.path_within-requires-clause-to
path_within-requires-clause-to c =
    let (taken, over, is) = c.requires in
    rw c.premise.ensures (premise_there c.args.parts.now c.args.graph.now.gone c.args.graph.now.received c.args.step over is.choice_of).1

pub returns : goal.returns
returns c = λ taken over is.
    let graph = c.args.graph.now in
    let step = c.args.step in
    let path : List Arc = c.in-Some.path in
    let some = take step.arcs graph.arcs in
    let match_is = rw c.premise.ensures at c.in_ok-path.ensures in
    let found = subst (λ (f : Option (List Arc)). MatchOption f (¬ Reaches graph.gone graph.received some (premise step).0 (premise step).1) (λ p. Reaches graph.gone graph.received some (premise step).0 (premise step).1 × IsPathOf graph.gone graph.received some (premise step).0 p (premise step).1)) c.in-Some.is match_is in
    let (more, same, are) = c.in_ok-push_right_arcs.ensures in
    let begins : c.push.new.self.items ≡ Taken (premise step).1 (premise step).0 ∷ [] = rw c.premise.ensures at (c.in_ok-push.ensures.items ∙ ap (λ (xs : List Arc). xs ++ Taken c.premise.result.1 c.premise.result.0 ∷ []) c.new-cycle.ensures.items) in
    let whole = c.new.ensures ∙ same ∙ ap (λ (xs : List Arc). xs ++ more) begins in
    cycle_found c.args.parts.now graph.gone graph.received graph.arcs taken step path more c.new.result over is found.1 (subst (λ (p : List Arc). AreLookedUp c.args.parts.now p more) c.as_slice.ensures are) whole
