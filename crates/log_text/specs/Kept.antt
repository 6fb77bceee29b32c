-- For private clauses: what is kept of the transactions of a line while they are read.
use Rattle.std.specs.Prelude.{ℕ, List, [], ◌∷◌, ◌++◌, length, take, nat_lt, Bool, true, Option, Some, None, option_map, option_and_then, if◌then◌else◌}
use Rattle.serde_json.specs.Data.{Data, number, unsigned, array, Items, item, no_items}
use Rattle.txn.specs.declared.transactions.Txn.{Txn}
use Rattle.logged_fragments.specs.declared.logged.LoggedFragment.{LoggedFragment}
use Rattle.log_text.specs.Items.{list_of, each_of, alone, one_item}
use Rattle.log_text.specs.Numbers.{session_of, whole_number}
use Rattle.log_text.specs.Commands.{txn_of, both_lists, times_in}
use Rattle.log_text.specs.declared.commands.Command.{Command}
use Rattle.log_text.specs.declared.fragments.Behind.{Behind}
use Rattle.log_text.specs.declared.fragments.Behind.TheVariants.{First, Txns}

-- the first so many, or all
abbrev pub most_of : {X : Type 0} → Option ℕ → List X → List X
most_of None xs = xs
most_of (Some n) xs = take n xs

-- whether one more is kept
abbrev pub has_room : Option ℕ → ℕ → Bool
has_room None count = true
has_room (Some n) count = nat_lt count n

abbrev pub with_one_more : {X : Type 0} → Option ℕ → List X → X → List X
with_one_more most xs x = if has_room most (length xs) then xs ++ x ∷ [] else xs

-- the first transactions, and every flag
abbrev pub kept : Option ℕ → List (Txn × Bool) → List Txn × List Bool
kept most told = (most_of most (both_lists told).0, (both_lists told).1)

abbrev pub txns_of : Option ℕ → Data → Option (List Txn × List Bool)
txns_of most given = option_map (kept most) (list_of txn_of given)

abbrev pub made : ℕ → ℕ → List Txn × List Bool → LoggedFragment
made session first told = record { fragment = record { session = session; first = first; txns = told.0 }; aborted = told.1 }

abbrev pub behind_in : Option ℕ → Items → Option Behind
behind_in most given = option_map (λ told. Txns (kept most told).0 (kept most told).1) (each_of txn_of given)

-- what stands behind the session of a join: a number to begin with, or transactions
abbrev pub behind_of : Option ℕ → Data → Option Behind
behind_of most (number (unsigned first)) = Some (First first)
behind_of most (array given) = behind_in most given
behind_of most given = None

-- what ends a join, behind its session
abbrev pub joined_by : Option ℕ → ℕ → Behind → Items → Option LoggedFragment
joined_by most session (First first) given = one_item (made session first) (txns_of most) given
joined_by most session (Txns txns aborted) given = alone (made session 0 (txns, aborted)) given

-- session,[txn,..] or session,first,[txn,..]
abbrev pub joined_within : Option ℕ → Items → Option LoggedFragment
joined_within most (item session (item behind rest)) = option_and_then (λ s. option_and_then (λ b. joined_by most s b rest) (behind_of most behind)) (session_of session)
joined_within most given = None

-- what ends an offer, behind its session and the number of its first transaction
abbrev pub offered_from : Option ℕ → ℕ → ℕ → Items → Option Command
offered_from most session first (item txns behind) = option_and_then (λ told. times_in (made session first told) behind) (txns_of most txns)
offered_from most session first no_items = None

-- behind its session
abbrev pub offered_behind : Option ℕ → ℕ → Items → Option Command
offered_behind most session (item first rest) = option_and_then (λ f. offered_from most session f rest) (whole_number first)
offered_behind most session no_items = None

-- session,first,[txn,..], or with [began,..],[ended,..] behind
abbrev pub offered_within : Option ℕ → Items → Option Command
offered_within most (item session rest) = option_and_then (λ s. offered_behind most s rest) (session_of session)
offered_within most no_items = None
