-- Transactions with their times.
use Rattle.std.proofs.Common.{◌≡◌, ℕ, zero, suc, ◌+◌, ◌<◌, ◌≤◌, Bool, true, false, List, [], ◌∷◌, ◌++◌, length, get_or, take, Some, refl, sym, ap, subst, ◌∙◌, inl, inr, arith}
use Rattle.std.specs.Prelude.{slice_get, slice_index_or, option_map}
use Rattle.txn.specs.declared.transactions.Txn.{Txn}
use Rattle.txn.specs.History.{session_of}
use Rattle.logged_fragments.specs.Effects.{effects_of}
use Rattle.strict_histories.specs.declared.timed.Span.{Span}
use Rattle.strict_histories.specs.declared.timed.TimedTxn.{TimedTxn}
use Rattle.std.proofs.lemmas.Bool.{cases_eq}
use Rattle.std.proofs.lemmas.Option.{get_or_from_slice_get, slice_get-get_or, slice_get_within}
use Rattle.strict_histories.specs.Strict.{TimedHistory}
use Rattle.strict_offers.specs.Offers.{FitsAt, FitsTimes, IsTimelyAfter, unknown, with_times}

-- as many as there are transactions
pub times_length : (txns : List Txn) (spans : List Span) → length (with_times txns spans) ≡ length txns
times_length [] spans = refl
times_length (txn ∷ txns) [] = ap suc (times_length txns [])
times_length (txn ∷ txns) (span ∷ spans) = ap suc (times_length txns spans)

-- as many as were logged
pub effects_length : (flags : List Bool) (txns : List Txn) → length (effects_of flags txns) ≡ length txns
effects_length [] txns = refl
effects_length (flag ∷ flags) [] = refl
effects_length (true ∷ flags) (txn ∷ txns) = ap suc (effects_length flags txns)
effects_length (false ∷ flags) (txn ∷ txns) = ap suc (effects_length flags txns)

-- with one transaction more
times_next : (txns : List Txn) (spans : List Span) (n : ℕ) (txn : Txn) → n < length txns → txn ≡ get_or txns n txn → with_times (take (suc n) txns) spans ≡ with_times (take n txns) spans ++ record { txn = txn; span = slice_index_or spans n unknown } ∷ []
times_next [] spans n t within is = absurd (omega (arith, within))
times_next (txn ∷ txns) [] zero t within is = ap (λ (one : Txn). record { txn = one; span = unknown } ∷ []) (sym is)
times_next (txn ∷ txns) [] (suc n) t within is = ap (λ rest. record { txn = txn; span = unknown } ∷ rest) (times_next txns [] n t (omega (arith, within)) is)
times_next (txn ∷ txns) (span ∷ spans) zero t within is = ap (λ (one : Txn). record { txn = one; span = span } ∷ []) (sym is)
times_next (txn ∷ txns) (span ∷ spans) (suc n) t within is = ap (λ rest. record { txn = txn; span = span } ∷ rest) (times_next txns spans n t (omega (arith, within)) is)

-- once one more is pushed
pub times_grown : (txns : List Txn) (spans : List Span) (n : ℕ) (txn copy : Txn) (span : Span) (old new : List TimedTxn) → n < length txns → txn ≡ get_or txns n txn → copy ≡ txn → span ≡ slice_index_or spans n unknown → old ≡ with_times (take n txns) spans → new ≡ old ++ record { txn = copy; span = span } ∷ [] → new ≡ with_times (take (n + 1) txns) spans
times_grown txns spans n txn copy span old new within is copied spanned so_far pushed =
    let more : suc n ≡ n + 1 = omega arith in
    pushed
    ∙ ap (λ (list : List TimedTxn). list ++ record { txn = copy; span = span } ∷ []) so_far
    ∙ ap (λ (one : Txn). with_times (take n txns) spans ++ record { txn = one; span = span } ∷ []) copied
    ∙ ap (λ (one : Span). with_times (take n txns) spans ++ record { txn = txn; span = one } ∷ []) spanned
    ∙ sym (times_next txns spans n txn within is)
    ∙ ap (λ k. with_times (take k txns) spans) more

-- the transaction at a place
pub times_at : (txns : List Txn) (spans : List Span) (n : ℕ) (t : TimedTxn) → slice_get (with_times txns spans) n ≡ Some t → slice_get txns n ≡ Some t.txn
times_at [] spans n t at = absurd cc
times_at (txn ∷ txns) [] zero t at = ap (option_map (λ (one : TimedTxn). one.txn)) at
times_at (txn ∷ txns) [] (suc n) t at = times_at txns [] n t at
times_at (txn ∷ txns) (span ∷ spans) zero t at = ap (option_map (λ (one : TimedTxn). one.txn)) at
times_at (txn ∷ txns) (span ∷ spans) (suc n) t at = times_at txns spans n t at

-- what was looked at tells of the one at the place
pub fits_shown : (sessions : ℕ) (earlier given : List TimedTxn) (place : ℕ) (t : TimedTxn) → place < length given → t ≡ get_or given place t → FitsTimes sessions t → IsTimelyAfter earlier t.span → IsTimelyAfter (take place given) t.span → FitsAt sessions earlier given place
fits_shown sessions earlier given place t within is fits after before x at =
    let same : t ≡ x = is ∙ get_or_from_slice_get given place x t at in
    subst (λ (one : TimedTxn). FitsTimes sessions one × IsTimelyAfter earlier one.span × IsTimelyAfter (take place given) one.span) same (fits, after, before)

-- the next one fits, too
pub fits_more : (sessions : ℕ) (earlier given : List TimedTxn) (k : ℕ) → ((place : ℕ) → place < k → FitsAt sessions earlier given place) → FitsAt sessions earlier given k → (place : ℕ) → place < k + 1 → FitsAt sessions earlier given place
fits_more sessions earlier given k below next place within = elim (cases_eq place k) [
  | inl same ↦ subst (FitsAt sessions earlier given) (sym same) next
  | inr other ↦ below place (omega (arith, within, other))
]

-- behind the last there is none
pub fits_all : (sessions : ℕ) (earlier given : List TimedTxn) (k : ℕ) → length given ≤ k → ((place : ℕ) → place < k → FitsAt sessions earlier given place) → (place : ℕ) → FitsAt sessions earlier given place
fits_all sessions earlier given k past below place t at =
    let within = slice_get_within given place t at in
    below place (omega (arith, within, past)) t at

-- a session that is there, as it was looked up
pub session_read : (timed : TimedHistory) (s place : ℕ) (row seen : List TimedTxn) → s < length timed → place ≡ s → row ≡ slice_index_or timed place row → seen ≡ row → seen ≡ session_of timed s
session_read timed s place row seen within same is looked =
    looked ∙ is ∙ ap (λ k. slice_index_or timed k row) same ∙ sym (get_or_from_slice_get timed s (slice_index_or timed s row) [] (slice_get-get_or timed s row within))
