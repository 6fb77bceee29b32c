-- A cut leaves good parts good.
use Rattle.std.proofs.Common.{◌≡◌, ℕ, ◌+◌, ◌-◌, ◌<◌, ◌≤◌, ◌^◌, List, [], ◌∷◌, length, filter, take, Some, None, Option, refl, sym, subst, ◌∙◌, arith, suc, zero, ap, nat_cmp, sum_by}
use Rattle.std.specs.Prelude.{Contains}
use Rattle.std.specs.List.{slice_get}
use Rattle.std.specs.FinMap.{FinMap, get}
use Rattle.std.proofs.lemmas.List.{length-drop}
use Rattle.std.proofs.lemmas.List.Sums.{length-filter, sum_by-cons}
use Rattle.list_lemmas.proofs.Places.{at_filter, IsAt}
use Rattle.list_lemmas.proofs.Ends.{length_taken}
use Rattle.txn.specs.declared.transactions.TxnId.{TxnId}
use Rattle.txn.specs.declared.transactions.Txn.{Txn}
use Rattle.txn.specs.History.{in_session, session_of}
use Rattle.txn.specs.Transactions.{IsWellFormed}
use Rattle.txn.proofs.Sessions.{length_ids_from}
use Rattle.order_check.specs.declared.remainder.Parts.{Parts}
use Rattle.order_check.specs.Based.{mark_of, remaining_of, remaining_ids, received_count, IsGone}
use Rattle.order_check.specs.Cutting.{CanBeApplied}
use Rattle.order_check.specs.Good.{IsGood}
use Rattle.order_check.specs.Settled.{IsCutOf, count_in, or_else}
use Rattle.order_check.proofs.CutCounts.{drop_at}
use Rattle.order_check.proofs.Fenced.{at_place}
use Rattle.order_check.proofs.OrderLaws.{in_own_session}
use Rattle.order_check.proofs.SessionIds.{id_at_place}

-- what stands in a front of a list stands there in the list, and within the front
taken_at : {X : Type 0} (n : ℕ) (xs : List X) (k : ℕ) (x : X) → slice_get (take n xs) k ≡ Some x → (k < n) × (slice_get xs k ≡ Some x)
taken_at zero xs k x at = absurd cc
taken_at (suc n) [] k x at = absurd cc
taken_at (suc n) (y ∷ xs) zero x at = (omega arith, at)
taken_at (suc n) (y ∷ xs) (suc k) x at = let rest = taken_at n xs k x at in (omega arith, rest.1)

-- lists that are shorter, place by place, are shorter together
sum_shorter : {X : Type 0} (xs ys : List (List X)) → length xs ≡ length ys → ((s : ℕ) → length (session_of xs s) ≤ length (session_of ys s)) → sum_by length xs ≤ sum_by length ys
sum_shorter [] ys same shorter = omega arith
sum_shorter (x ∷ xs) [] same shorter = absurd (omega arith)
sum_shorter (x ∷ xs) (y ∷ ys) same shorter =
    let first = shorter 0 in
    let rest = sum_shorter xs ys (omega arith) (λ s. shorter (suc s)) in
    let here = sum_by-cons length x xs in
    let there = sum_by-cons length y ys in
    omega (arith, first, rest, here, there)

-- no more are gone of a session than remain of it
pub few_cut : (parts : Parts) (gone : List TxnId) (last : FinMap nat_cmp TxnId) → CanBeApplied parts gone last → (s : ℕ) → count_in gone s ≤ length (remaining_of parts s)
few_cut parts gone last can s =
    let n = count_in gone s in
    let taken : n ≡ length (take n (remaining_ids parts s)) = sym (length-filter (in_session s) gone) ∙ ap length (can.front s) in
    let few = length_taken n (remaining_ids parts s) in
    let ids = length_ids_from s (mark_of parts s) (remaining_of parts s) in
    omega (arith, taken, few, ids)

-- the gone are below the marks after the cut
below_new : (old new : Parts) (gone : List TxnId) (last : FinMap nat_cmp TxnId) → CanBeApplied old gone last → IsCutOf old new gone last → (id : TxnId) → Contains gone id → IsGone new id
below_new old new gone last can cut id has = by_place (at_filter (in_session id.session) gone id (in_own_session id) (at_place gone id has))
  where
    by_place : IsAt (filter (in_session id.session) gone) id → IsGone new id
    by_place (k, at) =
        let s = id.session in
        let taken : slice_get (take (count_in gone s) (remaining_ids old s)) k ≡ Some id = subst (λ ids. slice_get ids k ≡ Some id) (can.front s) at in
        let there = taken_at (count_in gone s) (remaining_ids old s) k id taken in
        let place = id_at_place s (mark_of old s) (remaining_of old s) k id there.1 in
        let mark = cut.marks s in
        omega (arith, there.0, place.2, mark)

-- what remains of a session after the cut stood there before it
stood : (old new : Parts) (gone : List TxnId) (last : FinMap nat_cmp TxnId) → IsCutOf old new gone last → (s n : ℕ) (txn : Txn) → slice_get (remaining_of new s) n ≡ Some txn → slice_get (remaining_of old s) (count_in gone s + n) ≡ Some txn
stood old new gone last cut s n txn at = sym (drop_at (remaining_of old s) (count_in gone s) n) ∙ subst (λ txns. slice_get txns n ≡ Some txn) (cut.remain s) at

pub good_left : (old new : Parts) (gone : List TxnId) (last : FinMap nat_cmp TxnId) → IsGood old → CanBeApplied old gone last → IsCutOf old new gone last → IsGood new
good_left old new gone last good can cut = record {
  some_sessions = let e = cut.sessions in omega (arith, good.some_sessions, e);
  few_sessions = let e = cut.sessions in let most = cut.most_sessions in omega (arith, good.few_sessions, e, most);
  low_sessions = subst (λ most. most ≤ 256) (sym cut.most_sessions) good.low_sessions;
  marks = cut.marks_length ∙ good.marks ∙ sym cut.sessions;
  closed = ap length cut.closed ∙ good.closed ∙ sym cut.sessions;
  some_limit = subst (λ limit. 1 ≤ limit) (sym cut.limit) good.some_limit;
  low_limit = subst (λ limit. limit ≤ 1048576) (sym cut.limit) good.low_limit;
  room = let less = sum_shorter new.remain old.remain cut.sessions shorter in let limit = cut.limit in omega (arith, good.room, less, limit);
  numbers = λ s. let e = as_many s in subst (λ n. n ≤ 2 ^ 48) (sym e) (good.numbers s);
  well_formed = λ s n txn at. subst (λ most. IsWellFormed most (record { session = s; number = mark_of new s + n }) txn) (sym cut.most_sessions) (subst (λ number. IsWellFormed old.most_sessions (record { session = s; number = number }) txn) (place s n) (good.well_formed s (count_in gone s + n) txn (stood old new gone last cut s n txn at)));
  short = λ s n txn at. good.short s (count_in gone s + n) txn (stood old new gone last cut s n txn at);
  base = λ key writer is. by_new key writer (get last key) refl (sym (cut.writers key) ∙ is);
}
  where
    left : (s : ℕ) → length (remaining_of new s) ≡ length (remaining_of old s) - count_in gone s
    left s = ap length (cut.remain s) ∙ length-drop (count_in gone s) (remaining_of old s)

    shorter : (s : ℕ) → length (remaining_of new s) ≤ length (remaining_of old s)
    shorter s = let e = left s in omega (arith, e)

    as_many : (s : ℕ) → received_count new s ≡ received_count old s
    as_many s = let e = left s in let mark = cut.marks s in let few = few_cut old gone last can s in omega (arith, e, mark, few)

    place : (s n : ℕ) → mark_of old s + (count_in gone s + n) ≡ mark_of new s + n
    place s n = let mark = cut.marks s in omega (arith, mark)

    by_new : (key : ℕ) (writer : TxnId) (o : Option TxnId) → get last key ≡ o → or_else o (get old.base.last key) ≡ Some writer → IsGone new writer
    by_new key writer None e is = let below = good.base key writer is in let mark = cut.marks writer.session in omega (arith, below, mark)
    by_new key writer (Some first) e is = let same : first ≡ writer = cc in below_new old new gone last can cut writer (can.writers key writer (e ∙ ap Some same))
