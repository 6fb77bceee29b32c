use Rattle.std.proofs.Common.{◌∙◌, ◌++◌, ap, sym, take, length, arith}
use Rattle.std.specs.FinMap.{entries, entries_sorted, from_entries}
use Rattle.std.specs.Ordering.{nat_cmp}
use Rattle.order_check.proofs.FirstEntries.{first_below}
use Rattle.order_check.proofs.WriterEntries.{entries-from_entries}
use Rattle.order_check.proofs.first_entries.first_of_both.Goals as goal

pub returns-then-len-most : goal.returns-then-len-most
returns-then-len-most c =
    let bound = c.in-Some.bound.0 in
    let whole = from_entries {R = nat_cmp} (c.args.newer.now ++ c.args.older.now) in
    c.truncate.ensures.items ∙ ap (take c.args.most) c.in_ok-page.ensures
    ∙ first_below bound c.args.most (entries whole) (entries_sorted whole) (omega (arith, c.if-len-most.true, c.len.ensures, ap length c.in_ok-page.ensures))

pub returns : goal.returns
returns c = c.truncate-2.ensures.items ∙ ap (take c.args.most) (sym (entries-from_entries c.in_ok-all.all.items c.in_ok-all.ensures.rising) ∙ ap entries c.in_ok-all.ensures.same)
