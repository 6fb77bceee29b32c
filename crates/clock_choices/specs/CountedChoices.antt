-- What contracts see of open choices of which the first alone are listed.
use Rattle.std.specs.Prelude.{◌≡◌, ℕ, List, [], length, take}
use Rattle.txn.specs.declared.choices.Choice.{Choice}
use Rattle.order_check.specs.declared.remainder.Parts.{Parts}
use Rattle.order_check.specs.Known.{AreOpenChoices}
use Rattle.clock_choices.specs.declared.open_choices.OpenChoices.{OpenChoices}

-- there is a list of all open choices: the first so many of them are listed, and all are counted
pub record AreFirstOpen (parts : Parts) (most : ℕ) (listed : OpenChoices) : Type 0 where
  pub all : List Choice
  pub open_choices : AreOpenChoices parts [] all
  pub first : listed.first ≡ take most all
  pub counted : listed.count ≡ length all
