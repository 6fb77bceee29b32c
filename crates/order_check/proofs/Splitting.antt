-- The split law.
use Rattle.std.proofs.Common.{◌≡◌, ◌↔◌, ℕ, ◌+◌, ◌-◌, ◌<◌, ◌≤◌, ◌⊎◌, List, [], ◌∷◌, ◌++◌, length, filter, drop, Some, sym, subst, ◌∙◌, inl, inr, arith, suc, ap, nat_cmp, append_assoc, length-append}
use Rattle.std.specs.Prelude.{Contains, IsSomeAnd}
use Rattle.std.specs.FinMap.{FinMap, get}
use Rattle.std.proofs.lemmas.Bool.{cases_lt}
use Rattle.std.proofs.lemmas.List.Sums.{length-filter}
use Rattle.std.proofs.lemmas.List.{length-drop}
use Rattle.list_lemmas.proofs.Places.{place_right, IsAt}
use Rattle.txn.specs.declared.transactions.TxnId.{TxnId}
use Rattle.txn.specs.declared.transactions.Source.TheVariants.{By}
use Rattle.txn.specs.History.{in_session}
use Rattle.order_check.specs.declared.remainder.Parts.{Parts}
use Rattle.order_check.specs.Based.{mark_of, remaining_of, received_count, Remains, IsGone, IsReceived, last_gone, HasPending, HasGoneBase}
use Rattle.order_check.specs.Explains.{Explains}
use Rattle.order_check.specs.Known.{ReadsKey}
use Rattle.order_check.specs.Settled.{IsSettled, IsCutAt, IsCutOf, NoSession}
use Rattle.order_check.specs.CutLaws.{SplitsAt}
use Rattle.order_check.specs.Cuts.{IsFront, IsSettledBehind, IsCutBehind}
use Rattle.order_check.specs.Verdict.{HasOrder}
use Rattle.order_check.proofs.CutCounts.{cut_looks, fronts_remain}
use Rattle.order_check.proofs.CutFits.{few_gone}
use Rattle.order_check.proofs.CutReads.{CutLooks, AreBehind}
use Rattle.order_check.proofs.Fenced.{at_place, fence_splits, mark_same, order_remains}
use Rattle.order_check.proofs.KeptFronts.{front_itself}
use Rattle.order_check.proofs.OrderLaws.{reader_remains}
use Rattle.order_check.proofs.Received.{gone_past}
use Rattle.order_check.proofs.CutAhead.{same_in_whole, gone_ahead}
use Rattle.order_check.proofs.CutOrders.{rest_explains, whole_explains}

-- nothing remains behind a front of itself
settled_itself : (front : Parts) (fence : TxnId) → IsSettled front NoSession fence → IsSettledBehind front front fence
settled_itself front fence settled = record { settled = settled; behind = λ id remains out. absurd (out remains) }

-- the base of a front is that of the whole
base_of_front : (front whole : Parts) → IsFront front whole → HasGoneBase whole → HasGoneBase front
base_of_front front whole is base key writer e =
    let same : last_gone whole key ≡ Some writer = sym (ap (λ last. get last key) is.last) ∙ e in
    let gone = base key writer same in
    let mark = mark_same front whole is writer.session in
    omega arith

-- as much was received before the cut as after it
pub received_same : (front whole new : Parts) (fence : TxnId) (gone : List TxnId) (last : FinMap nat_cmp TxnId) (is_open : ℕ → Type 0) → IsFront front whole → IsSettled front is_open fence → IsCutAt front fence gone last → IsCutOf whole new gone last → (s : ℕ) → received_count new s ≡ received_count whole s
received_same front whole new fence gone last is_open is settled cut leaves s =
    let n = length (filter (in_session s) gone) in
    let counted : Rattle.order_check.specs.Settled.count_in gone s ≡ n = sym (length-filter (in_session s) gone) in
    let mark : mark_of new s ≡ mark_of whole s + n = leaves.marks s ∙ ap (λ k. mark_of whole s + k) counted in
    let left : length (remaining_of new s) ≡ length (remaining_of whole s) - n = ap length (leaves.remain s) ∙ ap (λ k. length (drop k (remaining_of whole s))) counted ∙ length-drop n (remaining_of whole s) in
    let few = few_gone front whole fence gone last is_open is settled cut s in
    omega (arith, mark, left, few)

-- the same reads wait before the cut and after it
pub waits_same : (front whole new : Parts) (fence : TxnId) (gone : List TxnId) (last : FinMap nat_cmp TxnId) (is_open : ℕ → Type 0) → IsFront front whole → IsSettled front is_open fence → IsCutAt front fence gone last → IsCutOf whole new gone last → (reader writer : TxnId) (key : ℕ) → (ReadsKey whole reader key (By writer) × (¬ IsReceived whole writer)) ↔ (ReadsKey new reader key (By writer) × (¬ IsReceived new writer))
waits_same front whole new fence gone last is_open is settled cut leaves reader writer key = (there, back)
  where
    looks : CutLooks whole new gone
    looks = cut_looks front whole new fence gone last is_open is settled cut leaves

    same : received_count new writer.session ≡ received_count whole writer.session
    same = received_same front whole new fence gone last is_open is settled cut leaves writer.session

    in_front : Contains gone reader → ReadsKey whole reader key (By writer) → IsReceived whole writer
    in_front has reads =
        let ahead = (cut.front reader).0 has in
        let r = fronts_remain front fence reader settled.remains ahead in
        let reads_front : ReadsKey front reader key (By writer) = subst (λ o. IsSomeAnd o (λ txn. Contains txn.reads (key, By writer))) (same_in_whole front whole is reader r) reads in
        let received = settled.nothing_pending reader writer key ahead reads_front in
        let mark = mark_same front whole is writer.session in
        let more = (is.remain writer.session).1 in
        let long : length (remaining_of whole writer.session) ≡ length (remaining_of front writer.session) + length (is.remain writer.session).0 = ap length more ∙ length-append (remaining_of front writer.session) (is.remain writer.session).0 in
        omega (arith, received, mark, long)

    there : ReadsKey whole reader key (By writer) × (¬ IsReceived whole writer) → ReadsKey new reader key (By writer) × (¬ IsReceived new writer)
    there (reads, missing) = by_mark (cases_lt reader.number (mark_of new reader.session))
      where
        remains : Remains whole reader
        remains = reader_remains whole reader key (By writer) reads

        by_kind : IsGone whole reader ⊎ Contains gone reader → ReadsKey new reader key (By writer) × (¬ IsReceived new writer)
        by_kind (inl was) = absurd (gone_past whole reader was remains)
        by_kind (inr has) = absurd (missing (in_front has reads))

        by_mark : (reader.number < mark_of new reader.session) ⊎ (mark_of new reader.session ≤ reader.number) → ReadsKey new reader key (By writer) × (¬ IsReceived new writer)
        by_mark (inl now) = by_kind (looks.new_gone reader now)
        by_mark (inr over) =
            let out : ¬ Contains gone reader = λ has. let now = looks.gone_new reader has in omega arith in
            (subst (λ o. IsSomeAnd o (λ txn. Contains txn.reads (key, By writer))) (sym (looks.same reader remains out)) reads, λ received. missing (omega (arith, received, same)))

    back : ReadsKey new reader key (By writer) × (¬ IsReceived new writer) → ReadsKey whole reader key (By writer) × (¬ IsReceived whole writer)
    back (reads, missing) =
        let r = looks.new_remains reader (reader_remains new reader key (By writer) reads) in
        (subst (λ o. IsSomeAnd o (λ txn. Contains txn.reads (key, By writer))) (looks.same reader r.0 r.1) reads, λ received. missing (omega (arith, received, same)))

-- so some read is pending before the cut exactly where one is after it
pending_new : (front whole new : Parts) (fence : TxnId) (gone : List TxnId) (last : FinMap nat_cmp TxnId) (is_open : ℕ → Type 0) → IsFront front whole → IsSettled front is_open fence → IsCutAt front fence gone last → IsCutOf whole new gone last → HasPending whole ↔ HasPending new
pending_new front whole new fence gone last is_open is settled cut leaves = (there, back)
  where
    there : HasPending whole → HasPending new
    there (reader, writer, key, reads, missing) = let waits = (waits_same front whole new fence gone last is_open is settled cut leaves reader writer key).0 (reads, missing) in (reader, writer, key, waits.0, waits.1)

    back : HasPending new → HasPending whole
    back (reader, writer, key, reads, missing) = let waits = (waits_same front whole new fence gone last is_open is settled cut leaves reader writer key).1 (reads, missing) in (reader, writer, key, waits.0, waits.1)

pub received_left : (front whole new : Parts) (gone : List TxnId) (last : FinMap nat_cmp TxnId) → IsCutBehind front whole gone last new → (s : ℕ) → received_count new s ≡ received_count whole s
received_left front whole new gone last behind = received_same front whole new behind.fence gone last NoSession behind.is_front behind.settled.settled behind.cut behind.leaves

pub waiting_left : (front whole new : Parts) (gone : List TxnId) (last : FinMap nat_cmp TxnId) → IsCutBehind front whole gone last new → (reader writer : TxnId) (key : ℕ) → (ReadsKey whole reader key (By writer) × (¬ IsReceived whole writer)) ↔ (ReadsKey new reader key (By writer) × (¬ IsReceived new writer))
waiting_left front whole new gone last behind = waits_same front whole new behind.fence gone last NoSession behind.is_front behind.settled.settled behind.cut behind.leaves

-- the split law
pub split_law : (front whole new : Parts) (gone : List TxnId) (last : FinMap nat_cmp TxnId) → HasGoneBase whole → HasOrder front → IsCutBehind front whole gone last new → (HasOrder whole ↔ HasOrder new) × (HasPending whole ↔ HasPending new)
split_law front whole new gone last base (order0, h0) behind = ((there, back), pending_new front whole new fence gone last NoSession is settled.settled cut leaves)
  where
    fence : TxnId
    fence = behind.fence

    is : IsFront front whole
    is = behind.is_front

    settled : IsSettledBehind front whole fence
    settled = behind.settled

    cut : IsCutAt front fence gone last
    cut = behind.cut

    leaves : IsCutOf whole new gone last
    leaves = behind.leaves

    there : HasOrder whole → HasOrder new
    there (order, h) = by_split (fence_splits front whole fence order base is settled h)
      where
        by_split : SplitsAt front fence order → HasOrder new
        by_split (before, after, e, in_before, in_after) =
            let h' = subst (λ ids. Explains whole ids) e h in
            let g = gone_ahead front whole new whole fence gone last NoSession before after base base is is settled.settled cut leaves h' in_before in_after in
            let seam : before ++ fence ∷ after ≡ (before ++ fence ∷ []) ++ after = sym (append_assoc before (fence ∷ []) after) in
            let later : AreBehind whole gone after = λ id has. (order_remains whole (before ++ fence ∷ after) id h' (in_tail before after id (at_place after id has)), λ gone_too. in_after id has ((cut.front id).0 gone_too)) in
            (after, rest_explains front whole new fence gone (before ++ fence ∷ []) after last NoSession is settled.settled cut leaves g later (subst (λ ids. Explains whole ids) seam h'))
          where
            in_tail : (xs ys : List TxnId) (id : TxnId) → IsAt ys id → IsAt (xs ++ fence ∷ ys) id
            in_tail xs ys id (k, at) = (length xs + suc k, place_right xs (fence ∷ ys) (suc k) id at)

    back : HasOrder new → HasOrder whole
    back (rest, n) = by_split (fence_splits front front fence order0 (base_of_front front whole is base) (front_itself front) (settled_itself front fence settled.settled) h0)
      where
        by_split : SplitsAt front fence order0 → HasOrder whole
        by_split (before, after, e, in_before, in_after) =
            let h' = subst (λ ids. Explains front ids) e h0 in
            let g = gone_ahead front whole new front fence gone last NoSession before after base (base_of_front front whole is base) is (front_itself front) settled.settled cut leaves h' in_before in_after in
            let seam : before ++ fence ∷ after ≡ (before ++ fence ∷ []) ++ after = sym (append_assoc before (fence ∷ []) after) in
            ((before ++ fence ∷ []) ++ rest, whole_explains front whole new fence gone (before ++ fence ∷ []) after rest last NoSession is settled.settled cut leaves g (subst (λ ids. Explains front ids) seam h') n)
