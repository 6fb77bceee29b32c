use Rattle.std.proofs.Common.{sym, ap, ◌∙◌}
use Rattle.std.specs.FinMap as map
use Rattle.std.specs.Ordering.{nat_cmp}
use Rattle.std.specs.Arc.{arc_value}
use Rattle.std.specs.Option.{option_map_or}
use Rattle.order_check.proofs.remainder.LastWriters.get.Goals as goal

pub returns-in-None : goal.returns-in-None
returns-in-None c = sym (map.get-empty nat_cmp c.args.key) ∙ ap (λ m. map.get m c.args.key) (sym (ap (λ shared. option_map_or (λ one. arc_value one) shared map.empty) c.in-None.is) ∙ c.self.view_is)
