-- How many of a list have a property, and ids with how many are known to come before each.
use Rattle.std.specs.Prelude.{ℕ, suc, List, [], ◌∷◌, map, All}
use Rattle.txn.specs.declared.transactions.TxnId.{TxnId}
use Rattle.order_check.specs.declared.remainder.Parts.{Parts}
use Rattle.order_check.specs.Cycles.{Sides}
use Rattle.order_check.specs.Known.{Known}
use Rattle.clock_choices.specs.declared.ranks.Rank.{Rank}

-- So many places of the list have an element with the property.
pub data Counts {X : Type 0} (P : X → Type 0) : List X → ℕ → Type 0 where
  none : Counts P [] 0
  one_more : {x : X} {xs : List X} {n : ℕ} → P x → Counts P xs n → Counts P (x ∷ xs) (suc n)
  not_this : {x : X} {xs : List X} {n : ℕ} → (¬ P x) → Counts P xs n → Counts P (x ∷ xs) n

-- the ids that are ranked
abbrev pub ids_of : List Rank → List TxnId
ids_of ranks = map (λ rank. rank.id) ranks

-- the count of each is how many of the ids are known to come before it where these sides are taken
abbrev pub AreRanked : Parts → Sides → List Rank → Type 0
AreRanked parts taken ranks = All (λ rank. Counts (λ id. Known parts taken id rank.id) (ids_of ranks) rank.count) ranks
