-- What a search beside a script is about.
use Rattle.order_check.specs.declared.remainder.Parts.{Parts}
use Rattle.log_text.specs.declared.commands.Effort.{Effort}

-- what a search is given, and the parts that it is about
pub record SearchOf : Type 0 where
  pub effort : Effort
  pub parts : Parts
