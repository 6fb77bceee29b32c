-- What a cut of a front takes out are, session by session, the first ids of what remains of the whole.
use Rattle.std.proofs.Common.{◌≡◌, ℕ, ◌+◌, ◌-◌, ◌<◌, ◌≤◌, ◌⊎◌, List, [], ◌∷◌, length, filter, take, Some, None, Option, refl, sym, subst, ◌∙◌, inl, inr, arith, suc, ap, IsSome, nat_cmp}
use Rattle.std.specs.Prelude.{Contains}
use Rattle.std.specs.List.{slice_get}
use Rattle.std.specs.FinMap.{FinMap}
use Rattle.std.proofs.lemmas.Bool.{false≢true, cases_lt}
use Rattle.std.proofs.lemmas.List.Sums.{length-filter}
use Rattle.list_lemmas.proofs.Places.{filtered_at, within_some}
use Rattle.txn.specs.declared.transactions.TxnId.{TxnId}
use Rattle.txn.specs.declared.transactions.Txn.{Txn}
use Rattle.txn.specs.History.{in_session, ids_from}
use Rattle.order_check.specs.declared.remainder.Parts.{Parts}
use Rattle.order_check.specs.Based.{mark_of, remaining_of, remaining_ids, received_count}
use Rattle.order_check.specs.Cuts.{IsFront, IsSettledBehind}
use Rattle.order_check.specs.Cutting.{CanBeApplied}
use Rattle.order_check.specs.Settled.{IsSettled, IsCutAt, NoSession, count_in}
use Rattle.order_check.proofs.CutCounts.{AreFrom, are_from, gone_without_gap, fronts_remain, at_contains}
use Rattle.order_check.proofs.Fenced.{remains_whole, mark_same}
use Rattle.order_check.proofs.Received.{remains_received}

-- no more are gone of a session than remain of it
pub few_gone : (front whole : Parts) (fence : TxnId) (gone : List TxnId) (last : FinMap nat_cmp TxnId) (is_open : ℕ → Type 0) → IsFront front whole → IsSettled front is_open fence → IsCutAt front fence gone last → (s : ℕ) → length (filter (in_session s) gone) ≤ length (remaining_of whole s)
few_gone front whole fence gone last is_open is settled cut s = by_some (cases_lt 0 n)
  where
    of : List TxnId
    of = filter (in_session s) gone

    n : ℕ
    n = length of

    from : AreFrom s (mark_of front s) of
    from = are_from s (mark_of front s) of (gone_without_gap front fence gone last is_open s settled cut)

    by_last : (o : Option TxnId) → slice_get of (n - 1) ≡ o → IsSome o → 0 < n → n ≤ length (remaining_of whole s)
    by_last None e some pos = absurd (false≢true some)
    by_last (Some id) e some pos =
        let here = from (n - 1) id e in
        let has : Contains gone id = at_contains gone id (filtered_at (in_session s) gone id (n - 1, e)) in
        let remains = remains_whole front whole is id (fronts_remain front fence id settled.remains ((cut.front id).0 has)) in
        let received = remains_received whole id remains in
        let marks = mark_same front whole is s in
        let there : id.number < received_count whole s = subst (λ q. id.number < received_count whole q) here.0 received in
        omega (arith, here.1, marks, there)

    by_some : (0 < n) ⊎ (n ≤ 0) → n ≤ length (remaining_of whole s)
    by_some (inl pos) = by_last (slice_get of (n - 1)) refl (within_some of (n - 1) (omega arith)) pos
    by_some (inr none) = omega (arith, none)

-- ids that go up by one from the first are the first ids of the session
first_ids : (s first : ℕ) (ids : List TxnId) (txns : List Txn) → AreFrom s first ids → length ids ≤ length txns → ids ≡ take (length ids) (ids_from s first txns)
first_ids s first [] txns from few = refl
first_ids s first (id ∷ ids) [] from few = absurd (omega arith)
first_ids s first (id ∷ ids) (txn ∷ txns) from few =
    let here = from 0 id refl in
    let number : id.number ≡ first = here.1 ∙ omega arith in
    let same : id ≡ record { session = s; number = first } = λ i. record { session = here.0 i; number = number i } in
    let rest : ids ≡ take (length ids) (ids_from s (first + 1) txns) = first_ids s (first + 1) ids txns (λ k x at. let place = from (suc k) x at in (place.0, omega (arith, place.1))) (omega arith) in
    λ i. same i ∷ rest i

pub cuts_fit : (front whole : Parts) (fence : TxnId) (gone : List TxnId) (last : FinMap nat_cmp TxnId) → IsFront front whole → IsSettledBehind front whole fence → IsCutAt front fence gone last → CanBeApplied whole gone last
cuts_fit front whole fence gone last is settled cut = record {
  front = λ s.
      let of = filter (in_session s) gone in
      let counted : count_in gone s ≡ length of = sym (length-filter (in_session s) gone) in
      let from : AreFrom s (mark_of whole s) of = subst (λ m. AreFrom s m of) (mark_same front whole is s) (are_from s (mark_of front s) of (gone_without_gap front fence gone last NoSession s settled.settled cut)) in
      let few = few_gone front whole fence gone last NoSession is settled.settled cut s in
      first_ids s (mark_of whole s) of (remaining_of whole s) from few ∙ ap (λ n. take n (remaining_ids whole s)) (sym counted);
  writers = λ key writer is_last. (cut.front writer).1 (((cut.last_of key writer).0 is_last).front);
}
