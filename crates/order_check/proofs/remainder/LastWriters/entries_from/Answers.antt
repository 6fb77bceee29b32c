use Rattle.std.proofs.Common.{ℕ, List, [], take, filter, nat_le, sym, ap, ◌∙◌, arith}
use Rattle.std.specs.FinMap as map
use Rattle.std.specs.Arc.{arc_value}
use Rattle.std.specs.Option.{option_map_or}
use Rattle.std.proofs.lemmas.List.{take_all}
use Rattle.txn.specs.declared.transactions.TxnId.{TxnId}
use Rattle.order_check.proofs.WriterEntries.{no_entries}
use Rattle.order_check.proofs.remainder.LastWriters.entries_from.Goals as goal

pub returns-in-None : goal.returns-in-None
returns-in-None c =
    c.new-in-None.ensures ∙ c.new.ensures.items ∙ sym (take_all c.args.most [] (omega arith))
    ∙ ap (λ (es : List (ℕ × TxnId)). take c.args.most (filter (λ e. nat_le c.args.key e.0) es)) (sym no_entries ∙ ap map.entries (sym (ap (λ shared. option_map_or (λ one. arc_value one) shared map.empty) c.in-None.is) ∙ c.self.view_is))
