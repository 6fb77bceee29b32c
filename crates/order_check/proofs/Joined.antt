-- Histories and parts with one session more.
use Rattle.std.proofs.Common.{◌≡◌, ℕ, ◌+◌, ◌⊎◌, Bool, true, false, zero, suc, List, [], ◌∷◌, ◌++◌, length, Some, refl, sym, ap, ◌∙◌, arith, inl, inr, slice_index}
use Rattle.std.specs.List.{slice_get}
use Rattle.std.specs.Prelude.{slice_set}
use Rattle.list_lemmas.proofs.Places.{place_in, place_left}
use Rattle.txn.specs.declared.transactions.Fragment.{Fragment}
use Rattle.txn.specs.declared.transactions.Txn.{Txn}
use Rattle.txn.specs.History.{History, session_of}
use Rattle.order_check.specs.StandsFor.{with_session}
use Rattle.order_check.proofs.Remaining.{session_past}

-- a mark of 0 at the end changes no mark
pub marks_more : (marks : List ℕ) (s : ℕ) → slice_index (marks ++ 0 ∷ []) s ≡ slice_index marks s
marks_more [] zero = refl
marks_more [] (suc s) = refl
marks_more (mark ∷ marks) zero = refl
marks_more (mark ∷ marks) (suc s) = marks_more marks s

-- the new session has the fragment
pub session_new : (history : History) (fragment : Fragment) → session_of (with_session history fragment) (length history) ≡ fragment.txns
session_new [] fragment = refl
session_new (txns ∷ history) fragment = session_new history fragment

-- the others have what they had
pub session_old : (history : History) (fragment : Fragment) (s : ℕ) → ¬ (s ≡ length history) → session_of (with_session history fragment) s ≡ session_of history s
session_old [] fragment zero apart = absurd (apart refl)
session_old [] fragment (suc s) apart = refl
session_old (txns ∷ history) fragment zero apart = refl
session_old (txns ∷ history) fragment (suc s) apart = session_old history fragment s (λ same. apart (ap suc same))

-- in the new session the fragment is all, and stands behind nothing
pub session_here : (history : History) (fragment : Fragment) (s : ℕ) → s ≡ length history → session_of (with_session history fragment) s ≡ session_of history s ++ fragment.txns
session_here history fragment s same =
    ap (session_of (with_session history fragment)) same ∙ session_new history fragment
    ∙ sym (ap (λ (txns : List Txn). txns ++ fragment.txns) (session_past history s (omega (arith, same))))

-- flags

-- what is closed of fewer is closed of more, with an open session more
pub below_more : (low high : List Bool) → ((t : ℕ) → slice_get low t ≡ Some true → slice_get high t ≡ Some true) → (t : ℕ) → slice_get (low ++ false ∷ []) t ≡ Some true → slice_get (high ++ false ∷ []) t ≡ Some true
below_more low high below t closed = by_place (place_in low (false ∷ []) t true closed)
  where
    by_rest : (k : ℕ) → slice_get (false ∷ []) k ≡ Some true → slice_get (high ++ false ∷ []) t ≡ Some true
    by_rest zero e = absurd (let no : Some false ≡ Some true = e in cc)
    by_rest (suc k) e = absurd cc

    by_place : (slice_get low t ≡ Some true) ⊎ ((k : ℕ) × (t ≡ length low + k) × (slice_get (false ∷ []) k ≡ Some true)) → slice_get (high ++ false ∷ []) t ≡ Some true
    by_place (inl e) = place_left high (false ∷ []) t true (below t e)
    by_place (inr (k, e, f)) = by_rest k f

-- .. and with one of them opened
pub below_opened : (low high : List Bool) (s t : ℕ) → (slice_get low t ≡ Some true → slice_get high t ≡ Some true) → slice_get (slice_set low s false) t ≡ Some true → slice_get (slice_set high s false) t ≡ Some true
below_opened [] high s t below closed = absurd cc
below_opened (flag ∷ low) [] zero zero below closed = absurd (let no : Some false ≡ Some true = closed in cc)
below_opened (flag ∷ low) [] zero (suc t) below closed = below closed
below_opened (flag ∷ low) [] (suc s) zero below closed = below closed
below_opened (flag ∷ low) [] (suc s) (suc t) below closed = below_opened low [] s t below closed
below_opened (flag ∷ low) (other ∷ high) zero zero below closed = closed
below_opened (flag ∷ low) (other ∷ high) zero (suc t) below closed = below closed
below_opened (flag ∷ low) (other ∷ high) (suc s) zero below closed = below closed
below_opened (flag ∷ low) (other ∷ high) (suc s) (suc t) below closed = below_opened low high s t below closed

-- what was closed is closed, where another session was opened
pub opened_other : (flags : List Bool) (s t : ℕ) → ¬ (t ≡ s) → slice_get flags t ≡ Some true → slice_get (slice_set flags s false) t ≡ Some true
opened_other [] s t apart closed = closed
opened_other (flag ∷ flags) zero zero apart closed = absurd (apart refl)
opened_other (flag ∷ flags) zero (suc t) apart closed = closed
opened_other (flag ∷ flags) (suc s) zero apart closed = closed
opened_other (flag ∷ flags) (suc s) (suc t) apart closed = opened_other flags s t (λ same. apart (ap suc same)) closed
