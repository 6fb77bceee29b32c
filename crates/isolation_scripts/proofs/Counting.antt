-- What arrives next of the split history arrives next of the history.
use Rattle.std.proofs.Common.{◌≡◌, ℕ, ◌*◌, ◌<◌, ◌≤◌, ◌⊎◌, true, false, cond, [], length, sym, ap, subst, ◌∙◌, inl, inr, arith}
use Rattle.std.specs.Prelude.{nat_eq}
use Rattle.std.proofs.lemmas.Bool.Decides.{eqb_tells}
use Rattle.std.proofs.lemmas.List.{get_or_past}
use Rattle.txn.specs.declared.transactions.Fragment.{Fragment}
use Rattle.txn.specs.History.{History, session_of}
use Rattle.order_check.specs.declared.remainder.Parts.{Parts}
use Rattle.order_check.specs.Based.{received_count}
use Rattle.order_check.specs.StandsFor.{More, Joins, Returns}
use Rattle.round_state.specs.Steps.{MayJoin, arrival_of}
use Rattle.isolation_histories.specs.Laws.{SplitDoublesCounts}
use Rattle.isolation_histories.specs.Split.{split_history, split_of, split_arrival, IsNextArrival}
use Rattle.isolation_scripts.specs.Legal.{HasReceived}

-- half of what was received
half_received : SplitDoublesCounts → (parts : Parts) (whole : History) → HasReceived parts (split_history whole) → (s first : ℕ) → 2 * first ≡ received_count parts s → first ≡ length (session_of whole s)
half_received doubles parts whole stands s first next =
    let all : 2 * first ≡ 2 * length (session_of whole s) = next ∙ stands.received s ∙ (doubles whole).session s in
    omega (arith, all)

as_many : SplitDoublesCounts → (parts : Parts) (whole : History) → HasReceived parts (split_history whole) → length whole ≡ length parts.remain
as_many doubles parts whole stands = sym (doubles whole).sessions ∙ stands.sessions

pub more_next : SplitDoublesCounts → (parts : Parts) (whole : History) (fragment : Fragment) → HasReceived parts (split_history whole) → fragment.session < length parts.remain → 2 * fragment.first ≡ received_count parts fragment.session → IsNextArrival whole (More fragment)
more_next doubles parts whole fragment stands within next =
    (subst (λ n. fragment.session < n) (sym (as_many doubles parts whole stands)) within, half_received doubles parts whole stands fragment.session fragment.first next)

-- the fragment of a join
pub join_next : SplitDoublesCounts → (parts : Parts) (whole : History) (fragment : Fragment) → HasReceived parts (split_history whole) → MayJoin parts fragment.session → 2 * fragment.first ≡ received_count parts fragment.session → IsNextArrival whole (arrival_of (length whole) fragment)
join_next doubles parts whole fragment stands may next = by_test (eqb_tells fragment.session (length whole))
  where
    place : fragment.first ≡ length (session_of whole fragment.session)
    place = half_received doubles parts whole stands fragment.session fragment.first next

    by_test : ((nat_eq fragment.session (length whole) ≡ true) × (fragment.session ≡ length whole)) ⊎ ((nat_eq fragment.session (length whole) ≡ false) × (fragment.session ≡ length whole → ⊥)) → IsNextArrival whole (arrival_of (length whole) fragment)
    by_test (inl new) =
        let past : length whole ≤ fragment.session = omega (arith, new.1) in
        let none : length (session_of whole fragment.session) ≡ 0 = ap length (get_or_past whole fragment.session [] past) in
        subst (λ t. IsNextArrival whole (cond t (Joins fragment) (Returns fragment))) (sym new.0) (new.1, place ∙ none)
    by_test (inr other) = subst (λ t. IsNextArrival whole (cond t (Joins fragment) (Returns fragment))) (sym other.0) (there may, place)
      where
        there : MayJoin parts fragment.session → fragment.session < length whole
        there (inl new) = absurd (other.1 (new ∙ sym (as_many doubles parts whole stands)))
        there (inr closed) = subst (λ n. fragment.session < n) (sym (as_many doubles parts whole stands)) closed.0.0

-- it arrives in the same way
pub same_arrival : SplitDoublesCounts → (whole : History) (fragment : Fragment) → arrival_of (length (split_history whole)) (split_of fragment) ≡ split_arrival (arrival_of (length whole) fragment)
same_arrival doubles whole fragment = ap (λ n. arrival_of n (split_of fragment)) (doubles whole).sessions ∙ by_test (eqb_tells fragment.session (length whole))
  where
    by_test : ((nat_eq fragment.session (length whole) ≡ true) × (fragment.session ≡ length whole)) ⊎ ((nat_eq fragment.session (length whole) ≡ false) × (fragment.session ≡ length whole → ⊥)) → arrival_of (length whole) (split_of fragment) ≡ split_arrival (arrival_of (length whole) fragment)
    by_test (inl new) = ap (λ t. cond t (Joins (split_of fragment)) (Returns (split_of fragment))) new.0 ∙ sym (ap (λ t. split_arrival (cond t (Joins fragment) (Returns fragment))) new.0)
    by_test (inr other) = ap (λ t. cond t (Joins (split_of fragment)) (Returns (split_of fragment))) other.0 ∙ sym (ap (λ t. split_arrival (cond t (Joins fragment) (Returns fragment))) other.0)
