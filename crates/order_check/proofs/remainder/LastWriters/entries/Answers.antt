use Rattle.std.proofs.Common.{sym, ap, ◌∙◌}
use Rattle.std.specs.FinMap as map
use Rattle.std.specs.Arc.{arc_value}
use Rattle.std.specs.Option.{option_map_or}
use Rattle.order_check.proofs.WriterEntries.{no_entries}
use Rattle.order_check.proofs.remainder.LastWriters.entries.Goals as goal

pub returns-in-None : goal.returns-in-None
returns-in-None c =
    c.new-in-None.ensures ∙ c.new.ensures.items ∙ sym no_entries
    ∙ ap map.entries (sym (ap (λ shared. option_map_or (λ one. arc_value one) shared map.empty) c.in-None.is) ∙ c.self.view_is)
