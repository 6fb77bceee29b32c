-- For private clauses: choices as they are counted.
use Rattle.std.specs.Prelude.{◌≡◌, ◌++◌, ℕ, List, length, take}
use Rattle.txn.specs.declared.choices.Choice.{Choice}
use Rattle.clock_choices.specs.declared.open_choices.Tally.{Tally}

-- the first so many of them are listed, and all are counted
pub record IsCounted (most : ℕ) (all : List Choice) (tally : Tally) : Type 0 where
  pub first : tally.first.items ≡ take most all
  pub counted : tally.count ≡ length all

-- behind any that were counted before, these are
abbrev pub TalliesOn : ℕ → List Choice → Tally → Tally → Type 0
TalliesOn most own old new = (all : List Choice) → IsCounted most all old → IsCounted most (all ++ own) new
