use Rattle.std.proofs.Common.{◌≡◌, ◌+◌, ◌-◌, true, arith}
use Rattle.std.proofs.lemmas.Bool.{false≢true}
use Rattle.std.proofs.lemmas.List.{get_or_default}
use Rattle.std.proofs.lemmas.List.Sorted.{all_adjacent_more}
use Rattle.txn.specs.Transactions.{read_below}
use Rattle.txn.specs.declared.transactions.Source.TheVariants.{Init}
use Rattle.txn.proofs.well_formed.reads_rise.Goals as goal

pub returns-then-not-is_read_below : goal.returns-then-not-is_read_below
returns-then-not-is_read_below c =
    let i = c.loop-i.i in
    let e : i - 1 + 1 ≡ i = omega arith in
    (λ h. absurd (false≢true h), λ rises. let h = rw e at (rises (i - 1) (0, Init) (omega arith)) in cc)

pub loop-i-preserved : goal.loop-i-preserved
loop-i-preserved c =
    let i = c.loop-i.i in
    let xs = c.args.reads.now in
    all_adjacent_more xs (λ x y. read_below x y ≡ true) i (omega arith) c.loop-i.invariant (λ d.
    let before = get_or_default xs (i - 1) d (0, Init) (omega arith) in
    let here = get_or_default xs i d (0, Init) (omega arith) in
    rw (before, here) cc)
