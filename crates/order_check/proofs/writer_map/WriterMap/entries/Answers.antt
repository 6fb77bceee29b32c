use Rattle.std.proofs.Common.{sym, ap, ◌∙◌}
use Rattle.std.specs.FinMap as map
use Rattle.order_check.proofs.WriterEntries.{entries-from_entries}
use Rattle.order_check.proofs.writer_map.WriterMap.entries.Goals as goal

pub returns : goal.returns
returns c =
    let all = c.in_ok-entries.entries.items in
    c.new.ensures ∙ sym (entries-from_entries all c.in_ok-entries.ensures.rising) ∙ ap map.entries (c.in_ok-entries.ensures.same ∙ c.self.view_is)
