use Rattle.std.proofs.Common.{◌∙◌, sym}
use Rattle.std.proofs.lemmas.Bool.{false≢true}
use Rattle.txn.specs.Choices.{first_side, second_side}
use Rattle.refutation.proofs.PrunedTrees.{stands_alone, stands_split}
use Rattle.refutation.proofs.pruned.Pruned.split.Goals as goal

pub returns-then-not-uses-clause-stands : goal.returns-then-not-uses-clause-stands
returns-then-not-uses-clause-stands c parts taken is left right =
    let uses = rw c.first_side.ensures at c.uses.ensures in
    stands_alone parts taken (first_side c.args.choice) c.args.first (λ has. absurd (false≢true (sym c.if-not-uses.true ∙ uses.1 has))) left

pub returns-then-not-uses-2-clause-stands : goal.returns-then-not-uses-2-clause-stands
returns-then-not-uses-2-clause-stands c parts taken is left right =
    let uses = rw c.second_side.ensures at c.uses-2.ensures in
    stands_alone parts taken (second_side c.args.choice) c.args.second (λ has. absurd (false≢true (sym c.if-not-uses-2.true ∙ uses.1 has))) right

pub returns-clause-stands : goal.returns-clause-stands
returns-clause-stands c parts taken is left right =
    let ones = rw c.first_side-2.ensures at c.remove.ensures.others in
    let others = rw c.second_side-2.ensures at c.remove-2.ensures.others in
    let h = stands_split parts taken c.remove.new.self c.remove-2.new.self c.in_ok-used.used c.args.choice c.args.first c.args.second ones others c.in_ok-used.ensures is left right in
    record { right = rw (c.in_ok-new.ensures.ok, c.in_ok-new-2.ensures.ok) (h.0, h.1, h.2); among = h.3 }
