use Rattle.std.proofs.Common.{◌∙◌, ◌++◌, ap, sym, take, filter, not, nat_lt}
use Rattle.std.specs.FinMap.{entries, from_entries}
use Rattle.std.specs.Ordering.{nat_cmp}
use Rattle.order_check.proofs.FirstEntries.{kept_entries}
use Rattle.order_check.proofs.first_entries.first_entries.Goals as goal

pub returns : goal.returns
returns c =
    let first = c.from-first.ensures.value in let second = c.from-second.ensures.value in
    let all = c.as_slice.ensures.value ∙ c.in_ok-newer.ensures.value in
    c.in_ok-page.ensures ∙ ap (take c.args.most) (
    (λ i. entries (from_entries {R = nat_cmp} (first i ++ second i)))
    ∙ sym (kept_entries (λ k. not (nat_lt k c.args.key)) c.as_slice.result.now c.args.older.now)
    ∙ (λ i. filter (λ e. not (nat_lt e.0 c.args.key)) (entries (from_entries {R = nat_cmp} (all i ++ c.args.older.now)))))
