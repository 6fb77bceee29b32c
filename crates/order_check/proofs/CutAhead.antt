-- What stands ahead of a settled fence, in an order of parts that have grown behind a front, is what a cut takes out.
use Rattle.std.proofs.Common.{◌≡◌, ◌≢◌, ℕ, ◌+◌, ◌<◌, ◌⊎◌, List, [], ◌∷◌, ◌++◌, length, Some, None, Option, refl, sym, subst, ◌∙◌, inl, inr, arith, suc, zero, ap, IsSome, nat_cmp, append_assoc}
use Rattle.std.specs.Prelude.{Contains}
use Rattle.std.specs.List.{slice_get}
use Rattle.std.specs.FinMap.{FinMap, get}
use Rattle.std.proofs.lemmas.Bool.{false≢true}
use Rattle.list_lemmas.proofs.Places.{place_in, place_left, place_right, IsAt}
use Rattle.list_lemmas.specs.Precedes.{Precedes}
use Rattle.txn.specs.declared.transactions.TxnId.{TxnId}
use Rattle.txn.specs.declared.transactions.Txn.{Txn}
use Rattle.txn.specs.History.{writes_key}
use Rattle.order_check.specs.declared.remainder.Parts.{Parts}
use Rattle.order_check.specs.Based.{remaining_at, Remains, HasGoneBase}
use Rattle.order_check.specs.Explains.{Explains}
use Rattle.order_check.specs.Known.{WritesKey}
use Rattle.order_check.specs.Settled.{IsSettled, IsBefore, IsCutAt, IsCutOf, IsLastIn, InFront}
use Rattle.order_check.specs.Cuts.{IsFront, GoesOn, IsSettledBehind}
use Rattle.order_check.proofs.CutCounts.{cut_looks, fronts_remain, at_contains}
use Rattle.order_check.proofs.CutReads.{LastOf, silent, written, Gone, contains_left}
use Rattle.order_check.proofs.Fenced.{at_place, in_front_or_behind, known_whole, remains_whole, still_remains, writes_whole}
use Rattle.order_check.proofs.KeepingLaws.{kept_never_twice, kept_one_place}
use Rattle.order_check.proofs.OrderLaws.{stands, precedes_left}
use Rattle.order_check.proofs.TakenLaws.{keeps_taken}

-- what remains of the front has the same transaction in the whole
pub same_in_whole : (front whole : Parts) → IsFront front whole → (id : TxnId) → Remains front id → remaining_at whole id ≡ remaining_at front id
same_in_whole front whole is id r = by_found (remaining_at front id) refl r
  where
    by_found : (o : Option Txn) → remaining_at front id ≡ o → IsSome o → remaining_at whole id ≡ remaining_at front id
    by_found None e some = absurd (false≢true some)
    by_found (Some txn) e some = still_remains front whole is id txn e ∙ sym e

-- what stays is known to come after the fence
pub rest_behind : (front whole : Parts) (fence : TxnId) (gone : List TxnId) (last : FinMap nat_cmp TxnId) → IsFront front whole → IsSettledBehind front whole fence → IsCutAt front fence gone last → (id : TxnId) → Remains whole id → (¬ Contains gone id) → IsBefore whole fence id
rest_behind front whole fence gone last is settled cut id remains out = by_place (in_front_or_behind front whole is id remains)
  where
    not_fence : id ≢ fence
    not_fence same = out ((cut.front id).1 (inl same))

    by_order : IsBefore front id fence ⊎ IsBefore front fence id → IsBefore whole fence id
    by_order (inl before) = absurd (out ((cut.front id).1 (inr before)))
    by_order (inr behind) = known_whole front whole is fence id behind

    by_place : Remains front id ⊎ (GoesOn front whole id.session × ((other : TxnId) → other.session ≡ id.session → Remains front other → other.number < id.number)) → IsBefore whole fence id
    by_place (inl there) = by_order (settled.settled.ordered id there not_fence)
    by_place (inr (goes, below)) = settled.behind id remains (λ here. let less = below id refl here in omega arith)

-- the last gone writer of each key that what goes writes
pub last_of_key : (front whole : Parts) (fence : TxnId) (gone : List TxnId) (last : FinMap nat_cmp TxnId) (is_open : ℕ → Type 0) → IsFront front whole → IsSettled front is_open fence → IsCutAt front fence gone last → (key : ℕ) → LastOf front whole gone last key
last_of_key front whole fence gone last is_open is settled cut key = by_key (get last key) refl
  where
    writes_front : (id : TxnId) → Contains gone id → WritesKey whole id key → WritesKey front id key
    writes_front id has writes = sym (ap (λ o. writes_key o key) (same_in_whole front whole is id (fronts_remain front fence id settled.remains ((cut.front id).0 has)))) ∙ writes

    by_key : (o : Option TxnId) → get last key ≡ o → LastOf front whole gone last key
    by_key None e = silent e (λ id has writes. no_writer id has (settled.last_writers id key ((cut.front id).0 has) (writes_front id has writes)))
      where
        no_writer : (id : TxnId) → Contains gone id → (writer : TxnId) × IsLastIn front fence key writer → ⊥
        no_writer id has (writer, is_last) = let some = (cut.last_of key writer).1 is_last in absurd cc
    by_key (Some writer) e =
        let is_last = (cut.last_of key writer).0 e in
        written writer e ((cut.front writer).1 is_last.front) (writes_whole front whole is writer key is_last.written) (λ other has writes apart. is_last.last other ((cut.front other).0 has) (writes_front other has writes) apart)

-- where a fence splits an order of parts behind the front, what stands ahead is what a cut takes out
pub gone_ahead : (front whole new parts : Parts) (fence : TxnId) (gone : List TxnId) (last : FinMap nat_cmp TxnId) (is_open : ℕ → Type 0) (before after : List TxnId) → HasGoneBase whole → HasGoneBase parts → IsFront front whole → IsFront front parts → IsSettled front is_open fence → IsCutAt front fence gone last → IsCutOf whole new gone last → Explains parts (before ++ fence ∷ after) → ((id : TxnId) → Contains before id → InFront front fence id) → ((id : TxnId) → Contains after id → ¬ InFront front fence id) → Gone front whole new gone last (before ++ fence ∷ [])
gone_ahead front whole new parts fence gone last is_open before after base base_parts is is_parts settled cut leaves h in_before in_after = record {
  looks = cut_looks front whole new fence gone last is_open is settled cut leaves;
  writers = leaves.writers;
  base = base;
  members = λ id. (λ has. (cut.front id).1 (ahead_in_front id (at_place ahead id has)), λ has. ahead_has id ((cut.front id).0 has));
  remain = λ id has. remains_whole front whole is id (fronts_remain front fence id settled.remains ((cut.front id).0 has));
  known = λ a b k has_a has_b. known_ahead a b (keeps_taken parts [] order base_parts h (λ x y (j, within, at). absurd (omega arith)) a b (known_whole front parts is_parts a b k)) (at_place ahead a (ahead_has a ((cut.front a).0 has_a))) (at_place ahead b (ahead_has b ((cut.front b).0 has_b)));
  once = λ id twice. kept_never_twice parts order id h.sessions (subst (λ ids. Precedes ids id id) seam (precedes_left ahead after id id twice));
  key_of = last_of_key front whole fence gone last is_open is settled cut;
}
  where
    ahead : List TxnId
    ahead = before ++ fence ∷ []

    order : List TxnId
    order = before ++ fence ∷ after

    seam : ahead ++ after ≡ order
    seam = append_assoc before (fence ∷ []) after

    ahead_in_front : (id : TxnId) → IsAt ahead id → InFront front fence id
    ahead_in_front id (k, at) = by_side (place_in before (fence ∷ []) k id at)
      where
        by_rest : (j : ℕ) → slice_get (fence ∷ []) j ≡ Some id → InFront front fence id
        by_rest zero e = inl cc
        by_rest (suc j) e = absurd cc

        by_side : (slice_get before k ≡ Some id) ⊎ ((j : ℕ) × (k ≡ length before + j) × (slice_get (fence ∷ []) j ≡ Some id)) → InFront front fence id
        by_side (inl e) = in_before id (at_contains before id (k, e))
        by_side (inr (j, e, f)) = by_rest j f

    fence_at : Contains ahead fence
    fence_at = at_contains ahead fence (length before + 0, place_right before (fence ∷ []) 0 fence refl)

    ahead_has : (id : TxnId) → InFront front fence id → Contains ahead id
    ahead_has id (inl same) = subst (λ x. Contains ahead x) (sym same) fence_at
    ahead_has id (inr known) = by_place (stands parts order id h (remains_whole front parts is_parts id (fronts_remain front fence id settled.remains (inr known))))
      where
        by_rest : (j : ℕ) → slice_get (fence ∷ after) j ≡ Some id → Contains ahead id
        by_rest zero e = let same : fence ≡ id = cc in subst (λ x. Contains ahead x) same fence_at
        by_rest (suc j) e = absurd (in_after id (at_contains after id (j, e)) (inr known))

        by_place : IsAt order id → Contains ahead id
        by_place (k, at) = by_side (place_in before (fence ∷ after) k id at)
          where
            by_side : (slice_get before k ≡ Some id) ⊎ ((j : ℕ) × (k ≡ length before + j) × (slice_get (fence ∷ after) j ≡ Some id)) → Contains ahead id
            by_side (inl e) = contains_left before (fence ∷ []) id (at_contains before id (k, e))
            by_side (inr (j, e, f)) = by_rest j f

    in_order : (id : TxnId) (k : ℕ) → slice_get ahead k ≡ Some id → slice_get order k ≡ Some id
    in_order id k at = subst (λ ids. slice_get ids k ≡ Some id) seam (place_left ahead after k id at)

    known_ahead : (a b : TxnId) → Precedes order a b → IsAt ahead a → IsAt ahead b → Precedes ahead a b
    known_ahead a b (i, j, below, here, there) (k, ak) (l, bl) =
        let ea = kept_one_place parts order a i k h.sessions here (in_order a k ak) in
        let eb = kept_one_place parts order b j l h.sessions there (in_order b l bl) in
        (k, l, omega arith, ak, bl)
