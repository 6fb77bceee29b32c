use Rattle.std.proofs.Common.{◌≡◌, ◌⊎◌, true, ◌||◌, [], ◌∷◌, refl, subst, lit<, inl, inr}
use Rattle.std.proofs.lemmas.Bool.{false≢true, or_cases}
use Rattle.txn.specs.declared.transactions.TxnId.{TxnId}
use Rattle.txn.specs.Transactions.{same_id}
use Rattle.txn.proofs.Ids.{same_id_is}
use Rattle.order_check.specs.declared.remainder.Parts.{Parts}
use Rattle.order_check.specs.Known.{by_session, by_read, through}
use Rattle.order_check.specs.Settled.{IsBefore, IsLastIn}
use Rattle.order_check.specs.Rows.{id, fresh, unordered_writers}
use Rattle.order_check.proofs.EachRemaining.{apart_by_test, each_writer_at}
use Rattle.order_check.proofs.KnownPairs.{Pairs, Covers, known_has, has}
use Rattle.order_check.proofs.Fresh.{no_base, fresh_last}
use Rattle.order_check.proofs.facts.row_unordered_writers.Goals as goal

abbrev parts : Parts
parts = fresh unordered_writers

-- all that is known
abbrev pairs : Pairs
pairs = (id 0 0, id 0 1) ∷ (id 0 0, id 0 2) ∷ (id 0 0, id 1 1) ∷ (id 0 1, id 0 2) ∷ (id 0 1, id 1 1) ∷ (id 1 0, id 0 2) ∷ (id 1 0, id 1 1) ∷ (id 1 1, id 0 2) ∷ []

covers : Covers parts no_base pairs
covers = record { gone = fresh_last unordered_writers; session = refl; read = refl; from_base = refl; transitive = refl; forced = refl }

known_pair : (a b : TxnId) → IsBefore parts a b → has pairs a b ≡ true
known_pair a b known = known_has parts no_base pairs covers a b known

-- both writers stand in front of the fence
first_in_front : IsBefore parts (id 0 0) (id 1 1)
first_in_front = through (by_session {a = id 0 0} {b = id 0 1} refl refl refl (lit< tt)) (by_read {reader = id 1 1} {writer = id 0 1} 0 (0, lit< tt, refl) refl)

second_in_front : IsBefore parts (id 1 0) (id 1 1)
second_in_front = by_session {a = id 1 0} {b = id 1 1} refl refl refl (lit< tt)

-- a last writer of key 5 would be one of them, and the other known to come before it
no_last : (writer : TxnId) → ¬ IsLastIn parts (id 1 1) 5 writer
no_last writer last = by_case (or_cases (same_id writer (id 0 0)) (same_id writer (id 1 0)) (each_writer_at 5 (λ i. same_id i (id 0 0) || same_id i (id 1 0)) parts refl writer last.written))
  where
    by_case : (same_id writer (id 0 0) ≡ true) ⊎ (same_id writer (id 1 0) ≡ true) → ⊥
    by_case (inl first) =
        let here = subst (IsLastIn parts (id 1 1) 5) (same_id_is writer (id 0 0) first) last in
        false≢true (known_pair (id 1 0) (id 0 0) (here.last (id 1 0) (inr second_in_front) refl (apart_by_test (id 1 0) (id 0 0) refl)))
    by_case (inr second) =
        let here = subst (IsLastIn parts (id 1 1) 5) (same_id_is writer (id 1 0) second) last in
        false≢true (known_pair (id 0 0) (id 1 0) (here.last (id 0 0) (inr first_in_front) refl (apart_by_test (id 0 0) (id 1 0) refl)))

pub returns : goal.returns
returns c settled =
    let (writer, last) = settled.last_writers (id 0 0) 5 (inr first_in_front) refl in
    no_last writer last
