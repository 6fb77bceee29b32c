-- All that is there, session by session.
use Rattle.std.proofs.Common.{◌≡◌, ◌↔◌, ℕ, zero, suc, ◌+◌, ◌-◌, ◌<◌, true, List, length, get_or, sym, ap, inl, inr, arith, Contains}
use Rattle.std.proofs.lemmas.Bool.{cases_eq, cases_lt}
use Rattle.std.proofs.lemmas.List.{get_or_past}
use Rattle.txn.specs.declared.transactions.TxnId.{TxnId}
use Rattle.txn.specs.Transactions.{id_below}
use Rattle.txn.proofs.Ids.{same_numbers}
use Rattle.session_clocks.specs.Reach.{IsThere}
use Rattle.clock_choices.specs.AllThere.{all_there, ids_from, there_below}
use Rattle.clock_choices.specs.Indexing.{AreInOrder, IsUpTo}
use Rattle.clock_choices.proofs.InLists.{In, contains_from_in, in_either, in_from_contains, in_left, in_right, pairs_append, pairs_of}
use Rattle.clock_choices.proofs.RemainingIds.{below_by_session, below_in_session}
use Rattle.clock_choices.proofs.SortedIds.{Ascends, same_ids}

pub from_is : (session first count : ℕ) (id : TxnId) → In (ids_from session first count) id → IsUpTo session first (first + count) id
from_is session first zero id there = absurd there
from_is session first (suc count) id (inl same) = (ap (λ (one : TxnId). one.session) (sym same), (let n = ap (λ (one : TxnId). one.number) same in omega (arith, n)), (let n = ap (λ (one : TxnId). one.number) same in omega (arith, n)))
from_is session first (suc count) id (inr there) = let (of, low, high) = from_is session (suc first) count id there in (of, omega (arith, low), omega (arith, high))

pub from_all : (session first count : ℕ) (id : TxnId) → IsUpTo session first (first + count) id → In (ids_from session first count) id
from_all session first zero id (of, low, high) = absurd (omega (arith, low, high))
from_all session first (suc count) id (of, low, high) = elim (cases_eq first id.number) [
  | inl same ↦ inl (same_numbers (record { session = session; number = first }) id (sym of) same)
  | inr apart ↦ inr (from_all session (suc first) count id (of, omega (arith, low, apart), omega (arith, high)))
]

pub from_ascends : (session first count : ℕ) → Ascends (ids_from session first count)
from_ascends session first zero = tt
from_ascends session first (suc count) = (
  λ y there. let (of, low, high) = from_is session (suc first) count y there in below_in_session (record { session = session; number = first }) y (sym of) (omega (arith, low)),
  from_ascends session (suc first) count,
)

module _ (gone received : List ℕ) where
  abbrev of_session : ℕ → List TxnId
  of_session session = ids_from session (get_or gone session 0) (get_or received session 0 - get_or gone session 0)

  -- what a session's list has
  session_is : (session : ℕ) (id : TxnId) → In (of_session session) id → (id.session ≡ session) × IsThere gone received id
  session_is session id there =
      let (of, low, high) = from_is session (get_or gone session 0) (get_or received session 0 - get_or gone session 0) id there in
      let g = ap (λ (s : ℕ). get_or gone s 0) of in
      let r = ap (λ (s : ℕ). get_or received s 0) of in
      (of, (omega (arith, low, g), omega (arith, low, high, r)))

  session_all : (session : ℕ) (id : TxnId) → id.session ≡ session → IsThere gone received id → In (of_session session) id
  session_all session id of (low, high) =
      let g = ap (λ (s : ℕ). get_or gone s 0) of in
      let r = ap (λ (s : ℕ). get_or received s 0) of in
      from_all session (get_or gone session 0) (get_or received session 0 - get_or gone session 0) id (of, omega (arith, low, g), omega (arith, low, high, g, r))

  pub below_is_there : (sessions : ℕ) (id : TxnId) → In (there_below gone received sessions) id → (id.session < sessions) × IsThere gone received id
  below_is_there zero id there = absurd there
  below_is_there (suc session) id there = elim (in_either (there_below gone received session) (of_session session) id there) [
    | inl before ↦ let was = below_is_there session id before in let less = was.0 in (omega (arith, less), was.1)
    | inr here ↦ let is = session_is session id here in let of = is.0 in (omega (arith, of), is.1)
  ]

  pub there_is_below : (sessions : ℕ) (id : TxnId) → id.session < sessions → IsThere gone received id → In (there_below gone received sessions) id
  there_is_below zero id less there = absurd (omega (arith, less))
  there_is_below (suc session) id less there = elim (cases_eq id.session session) [
    | inl of ↦ in_right (there_below gone received session) (of_session session) id (session_all session id of there)
    | inr apart ↦ in_left (there_below gone received session) (of_session session) id (there_is_below session id (omega (arith, less, apart)) there)
  ]

  pub below_ascends : (sessions : ℕ) → Ascends (there_below gone received sessions)
  below_ascends zero = tt
  below_ascends (suc session) = pairs_append (λ a b. id_below a b ≡ true) (there_below gone received session) (of_session session) (below_ascends session) (from_ascends session (get_or gone session 0) (get_or received session 0 - get_or gone session 0))
      (λ x y first second. let was = (below_is_there session x first).0 in let is = (session_is session y second).0 in below_by_session x y (omega (arith, was, is)))

  -- what is there is of one of the sessions
  pub there_within : (id : TxnId) → IsThere gone received id → id.session < length received
  there_within id there = elim (cases_lt id.session (length received)) [
    | inl within ↦ within
    | inr past ↦ let none = get_or_past received id.session 0 past in let high = there.1 in absurd (omega (arith, none, high))
  ]

  -- the ids in order of all that is there
  pub all_there_is : (ids : List TxnId) → AreInOrder ids → ((id : TxnId) → Contains ids id ↔ IsThere gone received id) → ids ≡ all_there gone received
  all_there_is ids order members = same_ids ids (all_there gone received) (pairs_of (λ a b. id_below a b ≡ true) ids order) (below_ascends (length received))
      (λ id there. let is = (members id).0 (contains_from_in ids id there) in there_is_below (length received) id (there_within id is) is)
      (λ id there. in_from_contains ids id ((members id).1 (below_is_there (length received) id there).1))
