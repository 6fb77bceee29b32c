-- For private clauses: transactions that are due, each noted once.
use Rattle.std.specs.Prelude.{◌≡◌, ◌⊎◌, ◌+◌, ℕ, zero, suc, Bool, true, false, List, [], ◌∷◌, Vec, Contains, slice_index, slice_index_or}
use Rattle.std.specs.declared.alloc.Global.{Global}
use Rattle.txn.specs.declared.transactions.TxnId.{TxnId}

-- the flag at a place of a session, none past its end
abbrev pub flag_at : List (Vec Bool Global) → ℕ → ℕ → Bool
flag_at [] session place = false
flag_at (line ∷ lines) zero place = slice_index_or line.items place false
flag_at (line ∷ lines) (suc session) place = flag_at lines session place

-- each that has a flag is among the ids
abbrev pub AreListed : List ℕ → List (Vec Bool Global) → List TxnId → Type 0
AreListed gone flags ids = (session place : ℕ) → flag_at flags session place ≡ true → Contains ids (record { session = session; number = slice_index gone session + place })

-- it is among the new ones, as are the old ones, and no others are
pub record IsNoted (old new : List TxnId) (id : TxnId) : Type 0 where
  pub here : Contains new id
  pub stay : (other : TxnId) → Contains old other → Contains new other
  pub only : (other : TxnId) → Contains new other → Contains old other ⊎ (other ≡ id)

-- the same of each of some
pub record AreNoted (old new ids : List TxnId) : Type 0 where
  pub here : (id : TxnId) → Contains ids id → Contains new id
  pub stay : (id : TxnId) → Contains old id → Contains new id
  pub only : (id : TxnId) → Contains new id → Contains old id ⊎ Contains ids id
