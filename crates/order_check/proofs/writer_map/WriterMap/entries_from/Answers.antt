use Rattle.std.proofs.Common.{◌++◌, ap, ◌∙◌, take, filter, nat_le}
use Rattle.std.specs.FinMap.{entries, from_entries}
use Rattle.std.specs.Ordering.{nat_cmp}
use Rattle.order_check.proofs.FirstEntries.{not_below}
use Rattle.order_check.proofs.writer_map.WriterMap.entries_from.Goals as goal

pub returns : goal.returns
returns c =
    let older = c.as_slice.ensures.value in
    c.new.ensures ∙ c.in_ok-page.ensures
    ∙ (λ i. take c.args.most (filter (λ e. not_below c.args.key e.0 i) (entries (from_entries {R = nat_cmp} (c.self.inside.newer.entries ++ older i)))))
    ∙ ap (λ m. take c.args.most (filter (λ e. nat_le c.args.key e.0) (entries m))) c.self.view_is
