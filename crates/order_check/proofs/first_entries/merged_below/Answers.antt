use Rattle.std.proofs.Common.{◌∙◌, ◌++◌, nat_lt}
use Rattle.std.specs.FinMap.{from_entries}
use Rattle.std.specs.Ordering.{nat_cmp}
use Rattle.order_check.proofs.FirstEntries.{kept_by}
use Rattle.order_check.proofs.first_entries.merged_below.Goals as goal

pub returns : goal.returns
returns c =
    let first = c.below-first.ensures.value in let second = c.below-second.ensures.value in
    kept_by (λ k. nat_lt k c.args.bound) c.args.newer.now c.args.older.now c.in_ok-all.all.items c.in_ok-all.ensures.rising
    (c.in_ok-all.ensures.same ∙ (λ i. from_entries {R = nat_cmp} (first i ++ second i)))
