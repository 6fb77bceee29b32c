use Rattle.std.proofs.Common.{ℕ, ◌+◌, ap, ◌∙◌, arith, rules, subst, sym}
use Rattle.order_check.specs.Search.{has_order, no_order, used_up}
use Rattle.clock_choices.specs.BranchState.{BranchState, all_taken, arc_of, assumed, taken_before}
use Rattle.polygraph.specs.Shown.{outcome_of, OrderKeeps, StandsAbove, told_of}
use Rattle.polygraph.proofs.Scanned.{nothing_left, deep_scan, closed_scan, decided_scan, first_scan, both_scan, keeps_fewer, shown_beyond, leaf_shown, split_shown}
use Rattle.polygraph.proofs.scanning.+scanning.Goals as goal

pub scan-returns-in-Some-clause-scans : goal.scan-returns-in-Some-clause-scans
scan-returns-in-Some-clause-scans t c = rw c.in_ok-take.ensures (closed_scan c.args.branch.now c.args.nodes.now c.in-Some.leaf (λ none. c.if-left-eq0.false (c.left.ensures ∙ none)) (omega arith) (rw c.in-Some.is at c.in_ok-leaf.ensures))

pub scan-returns-in_ok-explaining_order-in-None-clause-scans :
    goal.scan-returns-in_ok-explaining_order-in-None-clause-scans
scan-returns-in_ok-explaining_order-in-None-clause-scans t c = rw c.in_ok-take.ensures (decided_scan c.args.branch.now c.args.nodes.now (λ none. c.if-left-eq0.false (c.left.ensures ∙ none)) (omega arith) (rw c.in_default.is at c.in_ok-leaf.ensures) (rw c.in-None.is at c.in_ok-choice.ensures))

pub scan_side-scan-requires : goal.scan_side-scan-requires
scan_side-scan-requires t c =
    let e = ap (λ (b : BranchState). b.parts) c.in_ok-assume.ensures.ok.1 in
    (search rules, rw e c.requires.bad)

pub scan_side-returns-clause-sides : goal.scan_side-returns-clause-sides
scan_side-returns-clause-sides t c =
    let sides = assumed c.args.branch.now.levels in
    let made = c.in_ok-assume.ensures.ok in
    let found = subst (λ (b : BranchState). OrderKeeps (assumed b.levels) (told_of c.in_ok-found.found)) made.1 c.in_ok-found.ensures.sides in
    c.in_ok-found-2.ensures.sides sides (keeps_fewer (arc_of c.args.choice c.args.side) sides (told_of c.in_ok-found.found) found)

pub scan_side-returns-clause-shown : goal.scan_side-returns-clause-shown
scan_side-returns-clause-shown t c =
    let made = c.in_ok-assume.ensures.ok in
    let above = subst (λ (b : BranchState). (more most : ℕ) → StandsAbove b.parts (all_taken b.log b.levels) more most c.in_ok-found.found → StandsAbove b.parts (taken_before b.log b.levels) more (most + 1) c.in_ok-found-2.found) c.in_ok-found.ensures.kept c.in_ok-found-2.ensures.above in
    shown_beyond c.args.branch.now c.assume.new.self c.args.choice c.args.side made.0 c.in_ok-found.found c.in_ok-found-2.found made.1 c.in_ok-found.ensures.shown above

pub split-returns-in-Yes-clause-scans : goal.split-returns-in-Yes-clause-scans
split-returns-in-Yes-clause-scans t c = first_scan c.args.branch.now c.args.choice c.args.nodes.now _ (told_of c.in_ok-pruned.field-0) has_order (ap (λ f. outcome_of (told_of f)) c.in-Yes.is) (λ e. cc) c.requires.low c.requires.hopeful c.requires.first c.in_ok-pruned.ensures.scans

pub split-returns-in-Spent-clause-scans : goal.split-returns-in-Spent-clause-scans
split-returns-in-Spent-clause-scans t c = first_scan c.args.branch.now c.args.choice c.args.nodes.now _ (told_of c.in_ok-pruned.field-0) used_up (ap (λ f. outcome_of (told_of f)) c.in-Spent.is) (λ e. cc) c.requires.low c.requires.hopeful c.requires.first c.in_ok-pruned.ensures.scans

pub split-scan_side-requires-2 : goal.split-scan_side-requires-2
split-scan_side-requires-2 t c =
    let e = ap (λ (b : BranchState). b.parts) c.in_ok-pruned.ensures.kept in
    (search rules, (rw e c.requires.bad, rw e c.requires.first.is_open.choice_of))

pub split-returns-in-Yes-2-clause-scans : goal.split-returns-in-Yes-2-clause-scans
split-returns-in-Yes-2-clause-scans t c = both_scan c.args.branch.now c.scan_side.new.branch c.args.choice c.args.nodes.now c.scan_side.new.nodes _ (told_of c.in_ok-pruned.field-0) (told_of c.in_ok-pruned-2.field-0) has_order c.in_ok-pruned.ensures.kept (ap (λ f. outcome_of (told_of f)) c.in-No.is) (ap (λ f. outcome_of (told_of f)) c.in-Yes-2.is) c.requires.low c.requires.hopeful c.requires.first c.in_ok-pruned.ensures.scans c.in_ok-pruned-2.ensures.scans

pub split-returns-in-Spent-2-clause-scans : goal.split-returns-in-Spent-2-clause-scans
split-returns-in-Spent-2-clause-scans t c = both_scan c.args.branch.now c.scan_side.new.branch c.args.choice c.args.nodes.now c.scan_side.new.nodes _ (told_of c.in_ok-pruned.field-0) (told_of c.in_ok-pruned-2.field-0) used_up c.in_ok-pruned.ensures.kept (ap (λ f. outcome_of (told_of f)) c.in-No.is) (ap (λ f. outcome_of (told_of f)) c.in-Spent-2.is) c.requires.low c.requires.hopeful c.requires.first c.in_ok-pruned.ensures.scans c.in_ok-pruned-2.ensures.scans

pub split-returns-clause-scans : goal.split-returns-clause-scans
split-returns-clause-scans t c = both_scan c.args.branch.now c.scan_side.new.branch c.args.choice c.args.nodes.now c.scan_side.new.nodes _ (told_of c.in_ok-pruned.field-0) (told_of c.in_ok-pruned-2.field-0) no_order c.in_ok-pruned.ensures.kept (ap (λ f. outcome_of (told_of f)) c.in-No.is) (ap (λ f. outcome_of (told_of f)) c.in-No-2.is) c.requires.low c.requires.hopeful c.requires.first c.in_ok-pruned.ensures.scans c.in_ok-pruned-2.ensures.scans

pub scan-returns-then-left-eq0-clause-scans : goal.scan-returns-then-left-eq0-clause-scans
scan-returns-then-left-eq0-clause-scans t c = nothing_left c.args.branch.now c.args.nodes.now (sym c.left.ensures ∙ c.if-left-eq0.true)

pub scan-returns-then-depth-gt-GREATEST_DEPTH-clause-scans :
    goal.scan-returns-then-depth-gt-GREATEST_DEPTH-clause-scans
scan-returns-then-depth-gt-GREATEST_DEPTH-clause-scans t c = rw c.use_up.ensures (deep_scan c.args.branch.now c.args.nodes.now (omega arith))

pub scan-returns-in-Some-clause-shown : goal.scan-returns-in-Some-clause-shown
scan-returns-in-Some-clause-shown t c = leaf_shown c.args.branch.now c.in-Some.leaf c.in_ok-leaf-2.field-0 (omega arith) (rw c.in-Some.is at c.in_ok-leaf.ensures) c.in_ok-leaf-2.ensures.tree c.in_ok-leaf-2.ensures.stands

pub split-returns-clause-shown : goal.split-returns-clause-shown
split-returns-clause-shown t c = split_shown c.args.branch.now c.scan_side.new.branch c.args.choice c.in_ok-pruned.field-0 c.in_ok-pruned-2.field-0 c.in-No.pruned c.in-No-2.pruned c.in_ok-split.field-0 c.in-No.is c.in-No-2.is c.in_ok-pruned.ensures.kept c.requires.first.is_open.choice_of c.in_ok-pruned.ensures.shown c.in_ok-pruned-2.ensures.shown c.in_ok-split.ensures.stands c.in_ok-split.ensures.depth
