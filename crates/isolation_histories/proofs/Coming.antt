-- What comes next of a history: split, it comes next of the split history; and a history that can be split still can.
use Rattle.std.proofs.Common.{◌≡◌, ℕ, zero, suc, ◌+◌, ◌-◌, ◌*◌, ◌<◌, ◌≤◌, ◌^◌, ◌⊎◌, List, [], ◌∷◌, ◌++◌, length, Some, None, refl, sym, ap, subst, ◌∙◌, inl, inr, arith, get_or-set_same, get_or-set_other}
use Rattle.std.specs.List.{slice_get}
use Rattle.std.proofs.lemmas.Bool.{cases_lt, cases_eq}
use Rattle.std.proofs.lemmas.List.Elements.{All-weaker}
use Rattle.std.proofs.lemmas.Option.{slice_get_within, get_or_from_slice_get}
use Rattle.list_lemmas.proofs.Places.{place_in}
use Rattle.txn.specs.declared.transactions.TxnId.{TxnId}
use Rattle.txn.specs.declared.transactions.Txn.{Txn}
use Rattle.txn.specs.declared.transactions.Fragment.{Fragment}
use Rattle.txn.specs.Transactions.{IsWellFormed, id_in}
use Rattle.txn.specs.History.{History, session_of, txn_at}
use Rattle.order_check.specs.StandsFor.{Arrival, More, Joins, Returns, history_after, with_fragment, with_session}
use Rattle.isolation_histories.specs.Split.{split_sessions, split_history, split_arrival, IsNextArrival, CanBeSplit, HistoryCanBeSplit}
use Rattle.isolation_histories.specs.Splittable.{IsLowRead, HasLowNumbers, IsSplittable, fragment_of}
use Rattle.isolation_histories.proofs.Lookups.{session_split}
use Rattle.isolation_histories.proofs.WellFormedSplit.{split_length}

-- there are as many sessions
pub sessions_from : (m : ℕ) (history : History) → length (split_sessions m history) ≡ length history
sessions_from m [] = refl
sessions_from m (txns ∷ history) = ap suc (sessions_from (m + 1) history)

twice_first : (history : History) (fragment : Fragment) → fragment.first ≡ length (session_of history fragment.session) → 2 * fragment.first ≡ length (session_of (split_history history) fragment.session)
twice_first history fragment next = ap (λ n. 2 * n) next ∙ sym (split_length fragment.session 0 (session_of history fragment.session)) ∙ ap length (sym (session_split history fragment.session))

pub split_comes_next : (history : History) (arrival : Arrival) → IsNextArrival history arrival → IsNextArrival (split_history history) (split_arrival arrival)
split_comes_next history (More fragment) next = (subst (λ n. fragment.session < n) (sym (sessions_from 0 history)) next.0, twice_first history fragment next.1)
split_comes_next history (Returns fragment) next = (subst (λ n. fragment.session < n) (sym (sessions_from 0 history)) next.0, twice_first history fragment next.1)
split_comes_next history (Joins fragment) next = (next.0 ∙ sym (sessions_from 0 history), ap (λ n. 2 * n) next.1)

-- a transaction of a splittable fragment can be split
of_fragment : (sessions : ℕ) (fragment : Fragment) (k : ℕ) (txn : Txn) → IsSplittable sessions fragment → slice_get fragment.txns k ≡ Some txn → CanBeSplit txn
of_fragment sessions fragment k txn splittable at =
    let within : k < length fragment.txns = slice_get_within fragment.txns k txn at in
    let low : HasLowNumbers txn = subst HasLowNumbers (get_or_from_slice_get fragment.txns k txn txn at) (splittable.each k txn within) in
    let formed : IsWellFormed sessions (id_in fragment k) txn = splittable.well_formed.txns k txn within at in
    record {
      reads = All-weaker IsLowRead (λ read. read.0 < 2 ^ 63) (λ read low. low.0) txn.reads low.reads;
      writes = low.writes;
      epoch = formed.epoch;
    }

-- a transaction of a session with a fragment at its end
of_both : (sessions : ℕ) (history : History) (fragment : Fragment) (s n : ℕ) (txn : Txn) → HistoryCanBeSplit history → IsSplittable sessions fragment → slice_get (session_of history s ++ fragment.txns) n ≡ Some txn → CanBeSplit txn
of_both sessions history fragment s n txn can splittable at = by_place (place_in (session_of history s) fragment.txns n txn at)
  where
    by_place : (slice_get (session_of history s) n ≡ Some txn) ⊎ ((k : ℕ) × (n ≡ length (session_of history s) + k) × (slice_get fragment.txns k ≡ Some txn)) → CanBeSplit txn
    by_place (inl found) = can (record { session = s; number = n }) txn found
    by_place (inr (k, e, found)) = of_fragment sessions fragment k txn splittable found

with_more : (sessions : ℕ) (history : History) (fragment : Fragment) → HistoryCanBeSplit history → fragment.session < length history → IsSplittable sessions fragment → HistoryCanBeSplit (with_fragment history fragment)
with_more sessions history fragment can within splittable = λ id txn at. by_session id txn at (cases_eq fragment.session id.session)
  where
    by_session : (id : TxnId) (txn : Txn) → txn_at (with_fragment history fragment) id ≡ Some txn → (fragment.session ≡ id.session) ⊎ (fragment.session ≡ id.session → ⊥) → CanBeSplit txn
    by_session id txn at (inl same) =
        let here : session_of (with_fragment history fragment) id.session ≡ session_of history fragment.session ++ fragment.txns = ap (session_of (with_fragment history fragment)) (sym same) ∙ get_or-set_same history fragment.session (session_of history fragment.session ++ fragment.txns) [] within in
        of_both sessions history fragment fragment.session id.number txn can splittable (subst (λ txns. slice_get txns id.number ≡ Some txn) here at)
    by_session id txn at (inr other) =
        let here : session_of (with_fragment history fragment) id.session ≡ session_of history id.session = get_or-set_other history fragment.session id.session (session_of history fragment.session ++ fragment.txns) [] (λ e. other (sym e)) in
        can id txn (subst (λ txns. slice_get txns id.number ≡ Some txn) here at)

-- the sessions of a history with one more
old_session : (history : History) (txns : List Txn) (s : ℕ) → s < length history → session_of (history ++ txns ∷ []) s ≡ session_of history s
old_session [] txns s within = absurd (omega (arith, within))
old_session (one ∷ history) txns zero within = refl
old_session (one ∷ history) txns (suc s) within = old_session history txns s (omega (arith, within))

new_session : (history : History) (txns : List Txn) (k : ℕ) → session_of (history ++ txns ∷ []) (length history + k) ≡ session_of (txns ∷ []) k
new_session [] txns k = let n : 0 + k ≡ k = omega arith in ap (session_of (txns ∷ [])) n
new_session (one ∷ history) txns k = let n : suc (length history) + k ≡ suc (length history + k) = omega arith in ap (session_of (one ∷ history ++ txns ∷ [])) n ∙ new_session history txns k

with_one_more : (sessions : ℕ) (history : History) (fragment : Fragment) → HistoryCanBeSplit history → IsSplittable sessions fragment → HistoryCanBeSplit (with_session history fragment)
with_one_more sessions history fragment can splittable = λ id txn at. by_session id txn at (cases_lt id.session (length history))
  where
    by_session : (id : TxnId) (txn : Txn) → txn_at (with_session history fragment) id ≡ Some txn → (id.session < length history) ⊎ (length history ≤ id.session) → CanBeSplit txn
    by_session id txn at (inl old) = can id txn (subst (λ txns. slice_get txns id.number ≡ Some txn) (old_session history fragment.txns id.session old) at)
    by_session id txn at (inr new) =
        let e : id.session ≡ length history + (id.session - length history) = omega (arith, new) in
        by_new (id.session - length history) (subst (λ txns. slice_get txns id.number ≡ Some txn) (ap (session_of (with_session history fragment)) e ∙ new_session history fragment.txns (id.session - length history)) at)
      where
        by_new : (k : ℕ) → slice_get (session_of (fragment.txns ∷ []) k) id.number ≡ Some txn → CanBeSplit txn
        by_new zero found = of_fragment sessions fragment id.number txn splittable found
        by_new (suc k) found = absurd (let none : None ≡ Some txn = found in cc)

pub still_can : (sessions : ℕ) (history : History) (arrival : Arrival) → HistoryCanBeSplit history → IsNextArrival history arrival → IsSplittable sessions (fragment_of arrival) → HistoryCanBeSplit (history_after history arrival)
still_can sessions history (More fragment) can next splittable = with_more sessions history fragment can next.0 splittable
still_can sessions history (Returns fragment) can next splittable = with_more sessions history fragment can next.0 splittable
still_can sessions history (Joins fragment) can next splittable = with_one_more sessions history fragment can splittable
