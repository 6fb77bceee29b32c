-- For private clauses: items that are picked from a list, and transactions that are linked with all others of some runs.
use Rattle.std.specs.Prelude.{◌≡◌, ◌⊎◌, ◌↔◌, List, [], ◌∷◌, ◌++◌, All, Contains}
use Rattle.txn.specs.declared.transactions.TxnId.{TxnId}
use Rattle.clock_choices.specs.declared.runs.Run.{Run}
use Rattle.clock_choices.specs.Index.{IsInRuns}
use Rattle.clock_choices.specs.Runs.{IsThird}
use Rattle.clock_choices.specs.Writers.{AreRuns}

-- the items of the first list that have the property are the second one, in the same order
pub data Picks {X : Type 0} (Has : X → Type 0) : List X → List X → Type 0 where
  no_more : Picks Has [] []
  picked : {x : X} {xs ys : List X} → Has x → Picks Has xs ys → Picks Has (x ∷ xs) (x ∷ ys)
  passed : {x : X} {xs ys : List X} → (¬ Has x) → Picks Has xs ys → Picks Has (x ∷ xs) ys

-- the item goes to the end where it has the property
abbrev pub PicksOne : {X : Type 0} → (X → Type 0) → X → List X → List X → Type 0
PicksOne Has x old new = (Has x × (new ≡ old ++ x ∷ [])) ⊎ ((¬ Has x) × (new ≡ old))

-- the runs have these ids, and no others
pub record AreRunsOfIds (ids : List TxnId) (runs : List Run) : Type 0 where
  pub are : AreRuns runs
  pub ids_in : (id : TxnId) → IsInRuns runs id ↔ Contains ids id

-- each other one of the run stands before the transaction, or behind it
abbrev pub IsLinkedWithRun : (TxnId → TxnId → Type 0) → TxnId → Run → Type 0
IsLinkedWithRun R id run = (other : TxnId) → IsThird run.session run.numbers.items id id other → R other id ⊎ R id other

-- so of each run
abbrev pub IsLinkedWithAll : (TxnId → TxnId → Type 0) → List Run → TxnId → Type 0
IsLinkedWithAll R runs id = All (IsLinkedWithRun R id) runs
