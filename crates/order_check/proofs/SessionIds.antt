-- The ids of a session's transactions, in order of number.
use Rattle.std.proofs.Common.{◌≡◌, ℕ, ◌+◌, ◌<◌, ◌≤◌, suc, zero, List, [], ◌∷◌, length, Some, None, refl, sym, ap, ◌∙◌, arith, add-zero}
use Rattle.std.specs.List.{slice_get}
use Rattle.std.proofs.lemmas.Option.{slice_get_past}
use Rattle.txn.specs.declared.transactions.TxnId.{TxnId}
use Rattle.txn.specs.declared.transactions.Txn.{Txn}
use Rattle.txn.specs.History.{ids_from}
use Rattle.txn.proofs.Sessions.{length_ids_from}

-- the id at a place
pub ids_from_at : (s m : ℕ) (txns : List Txn) (n : ℕ) → n < length txns → slice_get (ids_from s m txns) n ≡ Some (record { session = s; number = m + n })
ids_from_at s m [] n within = absurd (omega arith)
ids_from_at s m (txn ∷ txns) zero within = rw add-zero refl
ids_from_at s m (txn ∷ txns) (suc n) within =
    let moved : m + 1 + n ≡ m + suc n = omega arith in
    rw (← moved) (ids_from_at s (m + 1) txns n (omega arith))

-- no id past the end of a session
pub ids_from_past : (s m : ℕ) (txns : List Txn) (n : ℕ) → length txns ≤ n → slice_get (ids_from s m txns) n ≡ None
ids_from_past s m txns n past = slice_get_past (ids_from s m txns) n (rw length_ids_from past)

-- what stands at a place, the other way round
pub id_at_place : (s number : ℕ) (txns : List Txn) (k : ℕ) (id : TxnId) → slice_get (ids_from s number txns) k ≡ Some id → (k < length txns) × (id.session ≡ s) × (id.number ≡ number + k)
id_at_place s number [] k id h = absurd cc
id_at_place s number (txn ∷ txns) zero id h = let e : record { session = s; number = number } ≡ id = cc in (omega arith, ap (λ (x : TxnId). x.session) (sym e), ap (λ (x : TxnId). x.number) (sym e) ∙ omega arith)
id_at_place s number (txn ∷ txns) (suc k) id h = more (id_at_place s (number + 1) txns k id h)
  where
    more : (k < length txns) × (id.session ≡ s) × (id.number ≡ number + 1 + k) → (suc k < suc (length txns)) × (id.session ≡ s) × (id.number ≡ number + suc k)
    more (within, session, place) = (omega arith, session, omega arith)
