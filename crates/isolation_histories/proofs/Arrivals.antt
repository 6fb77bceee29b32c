-- Splitting goes with arrivals.
use Rattle.std.proofs.Common.{◌≡◌, ℕ, zero, suc, ◌+◌, List, [], ◌∷◌, ◌++◌, length, refl, sym, ap, ◌∙◌, arith, add-zero}
use Rattle.std.specs.Prelude.{slice_set}
use Rattle.txn.specs.declared.transactions.Fragment.{Fragment}
use Rattle.txn.specs.declared.transactions.Txn.{Txn}
use Rattle.txn.specs.History.{History, session_of}
use Rattle.order_check.specs.StandsFor.{Arrival, More, Joins, Returns, history_after, with_fragment}
use Rattle.isolation_histories.specs.Split.{begin_txn, commit_txn, split_txns, split_sessions, split_history, split_of, split_arrival, IsNextArrival}
use Rattle.isolation_histories.proofs.Lookups.{session_split}

-- transactions at the end of others
pub split_append : (s number : ℕ) (front back : List Txn) → split_txns s number (front ++ back) ≡ split_txns s number front ++ split_txns s (number + length front) back
split_append s number [] back = rw add-zero refl
split_append s number (txn ∷ front) back =
    let moved : number + 1 + length front ≡ number + suc (length front) = omega arith in
    ap (λ txns. begin_txn txn ∷ commit_txn (record { session = s; number = number }) txn ∷ txns) (split_append s (number + 1) front back ∙ ap (λ n. split_txns s (number + 1) front ++ split_txns s n back) moved)

-- a session that is put in the place of another
split_set : (m : ℕ) (history : History) (s : ℕ) (txns : List Txn) → split_sessions m (slice_set history s txns) ≡ slice_set (split_sessions m history) s (split_txns (m + s) 0 txns)
split_set m [] s txns = refl
split_set m (one ∷ history) zero txns = rw add-zero refl
split_set m (one ∷ history) (suc s) txns =
    let moved : m + 1 + s ≡ m + suc s = omega arith in
    ap (λ sessions. split_txns m 0 one ∷ sessions) (split_set (m + 1) history s txns ∙ ap (λ k. slice_set (split_sessions (m + 1) history) s (split_txns k 0 txns)) moved)

-- one session more
split_join : (m : ℕ) (history : History) (txns : List Txn) → split_sessions m (history ++ txns ∷ []) ≡ split_sessions m history ++ split_txns (m + length history) 0 txns ∷ []
split_join m [] txns = rw add-zero refl
split_join m (one ∷ history) txns =
    let moved : m + 1 + length history ≡ m + suc (length history) = omega arith in
    ap (λ sessions. split_txns m 0 one ∷ sessions) (split_join (m + 1) history txns ∙ ap (λ k. split_sessions (m + 1) history ++ split_txns k 0 txns ∷ []) moved)

split_with : (history : History) (fragment : Fragment) → fragment.first ≡ length (session_of history fragment.session) → split_history (with_fragment history fragment) ≡ with_fragment (split_history history) (split_of fragment)
split_with history fragment next =
    let s = fragment.session in
    let zero_first : 0 + s ≡ s = omega arith in
    let place : 0 + length (session_of history s) ≡ fragment.first = omega (arith, next) in
    split_set 0 history s (session_of history s ++ fragment.txns)
    ∙ ap (λ k. slice_set (split_history history) s (split_txns k 0 (session_of history s ++ fragment.txns))) zero_first
    ∙ ap (slice_set (split_history history) s) (split_append s 0 (session_of history s) fragment.txns ∙ ap (λ n. split_txns s 0 (session_of history s) ++ split_txns s n fragment.txns) place ∙ ap (λ txns. txns ++ split_txns s fragment.first fragment.txns) (sym (session_split history s)))

pub split_with_arrival : (history : History) (arrival : Arrival) → IsNextArrival history arrival → split_history (history_after history arrival) ≡ history_after (split_history history) (split_arrival arrival)
split_with_arrival history (More fragment) next = split_with history fragment next.1
split_with_arrival history (Returns fragment) next = split_with history fragment next.1
split_with_arrival history (Joins fragment) next =
    let place : 0 + length history ≡ fragment.session = omega (arith, next) in
    split_join 0 history fragment.txns
    ∙ ap (λ k. split_history history ++ split_txns k 0 fragment.txns ∷ []) place
    ∙ ap (λ n. split_history history ++ split_txns fragment.session n fragment.txns ∷ []) (sym next.1)
