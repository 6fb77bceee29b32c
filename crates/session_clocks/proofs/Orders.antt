-- Relations that keep the order of each session, and what an arc joins in one.
use Rattle.std.proofs.Common.{◌≡◌, ◌⊎◌, ℕ, ◌<◌, ◌≤◌, List, length, inl, inr, arith}
use Rattle.std.proofs.lemmas.Bool.{cases_eq, cases_lt}
use Rattle.std.proofs.lemmas.List.{get_or_past}
use Rattle.txn.specs.declared.transactions.TxnId.{TxnId}
use Rattle.txn.proofs.Ids.{same_numbers}
use Rattle.session_clocks.specs.Reach.{IsThere}

abbrev pub Or : (TxnId → TxnId → Type 0) → TxnId → TxnId → Type 0
Or R a b = (a ≡ b) ⊎ R a b

-- transitive, and each transaction stands before the later ones of its session
pub record IsOrder (gone received : List ℕ) (R : TxnId → TxnId → Type 0) : Type 0 where
  pub trans : (a b c : TxnId) → R a b → R b c → R a c
  pub chain : (a b : TxnId) → IsThere gone received a → IsThere gone received b → a.session ≡ b.session → a.number < b.number → R a b

-- the relation with one more arc
pub record IsJoinOf (R new : TxnId → TxnId → Type 0) (start end : TxnId) : Type 0 where
  pub more : (a b : TxnId) → R a b → new a b
  pub joined : (a b : TxnId) → Or R a start → Or R end b → new a b
  pub cases : (a b : TxnId) → new a b → R a b ⊎ (Or R a start × Or R end b)

module _ (gone received : List ℕ) (R : TxnId → TxnId → Type 0) (order : IsOrder gone received R) where
  -- of two in one session, the one with the lower number is the other or stands before it
  pub chain_or : (a b : TxnId) → IsThere gone received a → IsThere gone received b → a.session ≡ b.session → a.number ≤ b.number → Or R a b
  chain_or a b first second session below = elim (cases_eq a.number b.number) [
    | inl same ↦ inl (same_numbers a b session same)
    | inr apart ↦ inr (order.chain a b first second session (omega arith))
  ]

  pub or_then : (a b c : TxnId) → Or R a b → R b c → R a c
  or_then a b c (inl same) second = rw same second
  or_then a b c (inr first) second = order.trans a b c first second

  pub then_or : (a b c : TxnId) → R a b → Or R b c → R a c
  then_or a b c first (inl same) = rw (← same) first
  then_or a b c first (inr second) = order.trans a b c first second

-- the session of what is there is one of the sessions
pub there_within : (gone received : List ℕ) (id : TxnId) → length received ≡ length gone → IsThere gone received id → id.session < length gone
there_within gone received id lens there = elim (cases_lt id.session (length received)) [
  | inl within ↦ omega arith
  | inr past ↦ let none = get_or_past received id.session 0 past in absurd (omega (arith, none, there.1))
]
