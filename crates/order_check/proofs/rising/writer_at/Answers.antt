use Rattle.std.proofs.Common.{sym, ◌∙◌}
use Rattle.order_check.proofs.Writers.{get-entry_at}
use Rattle.order_check.proofs.RisingLists.{found_at_place, none_past_place}
use Rattle.order_check.proofs.rising.writer_at.Goals as goal

pub returns-in-Some : goal.returns-in-Some
returns-in-Some c =
    c.writer_if.ensures
    ∙ found_at_place c.args.entries.now c.args.key c.count_below-place.result c.in-Some.entry c.requires c.count_below-place.ensures.rest c.in-Some.ensures.0 c.in-Some.ensures.1
    ∙ sym (get-entry_at c.args.entries.now c.args.key)

pub returns-in-None : goal.returns-in-None
returns-in-None c =
    none_past_place c.args.entries.now c.args.key c.count_below-place.result c.count_below-place.ensures.rest c.in-None.ensures
    ∙ sym (get-entry_at c.args.entries.now c.args.key)
