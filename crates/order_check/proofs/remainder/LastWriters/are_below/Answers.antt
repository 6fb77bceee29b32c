use Rattle.std.proofs.Common.{refl, sym, ap, ◌∙◌}
use Rattle.std.specs.Arc.{arc_value}
use Rattle.std.proofs.lemmas.Option.{none-some}
use Rattle.std.specs.FinMap as map
use Rattle.std.specs.Option.{option_map_or}
use Rattle.std.specs.Ordering.{nat_cmp}
use Rattle.order_check.proofs.remainder.LastWriters.are_below.Goals as goal

pub returns-in-None : goal.returns-in-None
returns-in-None c =
    let none = ap (λ shared. option_map_or (λ one. arc_value one) shared map.empty) c.in-None.is in (
      λ yes key writer e. absurd (none-some writer (sym (map.get-empty nat_cmp key) ∙ ap (λ m. map.get m key) (sym none ∙ c.self.view_is) ∙ e)),
      λ below. refl,
    )
