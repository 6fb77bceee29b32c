-- The last writers that are noted are those in front of the fence, where each write is overruled.
use Rattle.std.proofs.Common.{◌≡◌, ◌≢◌, ℕ, ◌⊎◌, List, [], get_or, refl, sym, inl, inr, subst, Option, Some, None}
use Rattle.std.specs.Prelude.{◌↔◌, All, Contains, IsSomeAnd}
use Rattle.std.specs.Ordering.{nat_cmp}
use Rattle.std.specs.FinMap as map
use Rattle.std.proofs.lemmas.List.Elements.{All-contains, Contains-get_or}
use Rattle.txn.specs.declared.transactions.TxnId.{TxnId}
use Rattle.txn.proofs.Ids.{same_or_not}
use Rattle.order_check.specs.declared.remainder.Parts.{Parts}
use Rattle.order_check.specs.Known.{Known, WritesKey}
use Rattle.order_check.specs.Settled.{IsBefore, InFront, IsLastIn}
use Rattle.settle.specs.Writers.{AreLastWriters, AreNoted, AreWritesOf, HaveLastWriters, IsGreatest, IsOverruled}

-- the last writer in front is the one that is noted
last_noted : (parts : Parts) (fence : TxnId) (front : List TxnId) (writes : List (ℕ × TxnId)) (last : map.FinMap nat_cmp TxnId) → ((id : TxnId) → Contains front id ↔ InFront parts fence id) → AreWritesOf parts front writes → AreNoted parts writes last → (key : ℕ) (writer : TxnId) → IsLastIn parts fence key writer → map.get last key ≡ Some writer
last_noted parts fence front writes last in_front are_writes are_noted key writer is_last = are_noted.greatest key writer (are_writes.all key writer ((in_front writer).1 is_last.front) is_last.written) most
  where
    most : IsGreatest parts writes key writer
    most other h apart = let found = are_writes.only key other h in is_last.last other ((in_front other).0 found.0) found.1 apart

pub have_overruled : (parts : Parts) (fence : TxnId) (front : List TxnId) (writes : List (ℕ × TxnId)) (last : map.FinMap nat_cmp TxnId) → ((id : TxnId) → Contains front id ↔ InFront parts fence id) → AreWritesOf parts front writes → AreNoted parts writes last → HaveLastWriters parts fence → All (IsOverruled parts last) writes
have_overruled parts fence front writes last in_front are_writes are_noted have k d within = one (get_or writes k d) (Contains-get_or writes k d within)
  where
    one : (write : ℕ × TxnId) → Contains writes write → IsOverruled parts last write
    one (key, id) h = by_last (have id key ((in_front id).0 found.0) found.1)
      where
        found : Contains front id × WritesKey parts id key
        found = are_writes.only key id h

        by_last : (writer : TxnId) × IsLastIn parts fence key writer → IsOverruled parts last (key, id)
        by_last (writer, is_last) = subst (λ (noted : Option TxnId). IsSomeAnd noted (λ w. (id ≡ w) ⊎ IsBefore parts id w)) (sym (last_noted parts fence front writes last in_front are_writes are_noted key writer is_last)) (by_id (same_or_not id writer))
          where
            by_id : (id ≡ writer) ⊎ (id ≡ writer → ⊥) → (id ≡ writer) ⊎ IsBefore parts id writer
            by_id (inl same) = inl same
            by_id (inr apart) = inr (is_last.last id ((in_front id).0 found.0) found.1 apart)

pub are_last : (parts : Parts) (fence : TxnId) (front : List TxnId) (writes : List (ℕ × TxnId)) (last : map.FinMap nat_cmp TxnId) → ((x : TxnId) → ¬ Known parts [] x x) → ((id : TxnId) → Contains front id ↔ InFront parts fence id) → AreWritesOf parts front writes → AreNoted parts writes last → All (IsOverruled parts last) writes → AreLastWriters parts fence last
are_last parts fence front writes last acyclic in_front are_writes are_noted overruled = record { each = each; last_of = λ key writer. (is_last key writer, last_noted parts fence front writes last in_front are_writes are_noted key writer) }
  where
    is_last : (key : ℕ) (writer : TxnId) → map.get last key ≡ Some writer → IsLastIn parts fence key writer
    is_last key writer e = record { front = (in_front writer).0 found.0; written = found.1; last = before }
      where
        found : Contains front writer × WritesKey parts writer key
        found = are_writes.only key writer (are_noted.written key writer e)

        before : (other : TxnId) → InFront parts fence other → WritesKey parts other key → other ≢ writer → IsBefore parts other writer
        before other there written apart = by_case (subst (λ (noted : Option TxnId). IsSomeAnd noted (λ w. (other ≡ w) ⊎ IsBefore parts other w)) e (All-contains (IsOverruled parts last) writes (key, other) overruled (are_writes.all key other ((in_front other).1 there) written)))
          where
            by_case : (other ≡ writer) ⊎ IsBefore parts other writer → IsBefore parts other writer
            by_case (inl same) = absurd (apart same)
            by_case (inr h) = h

    each : HaveLastWriters parts fence
    each id key there written = by_noted (map.get last key) refl (All-contains (IsOverruled parts last) writes (key, id) overruled (are_writes.all key id ((in_front id).1 there) written))
      where
        by_noted : (noted : Option TxnId) → map.get last key ≡ noted → IsSomeAnd noted (λ w. (id ≡ w) ⊎ IsBefore parts id w) → (writer : TxnId) × IsLastIn parts fence key writer
        by_noted None e h = absurd h
        by_noted (Some writer) e h = (writer, is_last key writer e)
