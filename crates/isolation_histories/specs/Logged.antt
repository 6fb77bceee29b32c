-- Fragments that tell aborted transactions, split.
use Rattle.std.specs.Prelude.{Bool, List, [], ◌∷◌}
use Rattle.logged_fragments.specs.declared.logged.LoggedFragment.{LoggedFragment}
use Rattle.isolation_histories.specs.Split.{split_of}

-- each flag twice
abbrev pub doubled : List Bool → List Bool
doubled [] = []
doubled (flag ∷ flags) = flag ∷ flag ∷ doubled flags

-- two transactions for each: where one aborted, both of its two did
abbrev pub split_logged : LoggedFragment → LoggedFragment
split_logged logged = record { fragment = split_of logged.fragment; aborted = doubled logged.aborted }
