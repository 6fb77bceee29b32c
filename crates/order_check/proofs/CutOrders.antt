-- Orders of parts that have grown behind a front, and orders of what a cut leaves of them.
use Rattle.std.proofs.Common.{◌≡◌, ℕ, ◌+◌, ◌<◌, ◌≤◌, ◌⊎◌, List, [], ◌∷◌, ◌++◌, length, get_or, filter, take, drop, Some, None, Option, refl, sym, subst, ◌∙◌, inl, inr, arith, suc, zero, ap, IsSome, nat_cmp, append_assoc}
use Rattle.std.specs.Prelude.{Contains, All}
use Rattle.std.specs.List.{slice_get}
use Rattle.std.specs.FinMap.{FinMap, get}
use Rattle.std.proofs.lemmas.Bool.{false≢true, cases_lt, eq-eqb}
use Rattle.std.proofs.lemmas.List.Sums.{length-filter}
use Rattle.std.proofs.lemmas.List.{get_or_default}
use Rattle.std.proofs.lemmas.List.Elements.{filter-append, All-weaker}
use Rattle.std.proofs.lemmas.Option.{slice_get_within}
use Rattle.list_lemmas.proofs.Places.{filtered_at, at_filter, place_left, place_right, IsAt, within_some}
use Rattle.txn.specs.declared.transactions.TxnId.{TxnId}
use Rattle.txn.specs.declared.transactions.Txn.{Txn}
use Rattle.txn.specs.declared.transactions.Source.{Source}
use Rattle.txn.specs.declared.transactions.Source.TheVariants.{Init, By}
use Rattle.txn.specs.History.{in_session, ids_from, writes_key, NoneWrites, IsLastWriter}
use Rattle.order_check.specs.declared.remainder.Parts.{Parts}
use Rattle.order_check.specs.Based.{mark_of, remaining_of, remaining_ids, remaining_at, Remains, IsGone, IsReceived, last_gone}
use Rattle.order_check.specs.Explains.{Explains, Meets}
use Rattle.order_check.specs.Known.{ReadsKey}
use Rattle.order_check.specs.Settled.{IsSettled, IsCutAt, IsCutOf}
use Rattle.order_check.specs.Cuts.{IsFront}
use Rattle.order_check.proofs.CutCounts.{AreFrom, are_from, gone_without_gap, fronts_remain, at_contains}
use Rattle.order_check.proofs.CutReads.{Gone, AreBehind, met_new, met_whole, place_has, contains_left}
use Rattle.order_check.proofs.Fenced.{at_place, mark_same, order_remains}
use Rattle.order_check.proofs.Received.{received_cases, gone_past}
use Rattle.order_check.proofs.SessionIds.{id_at_place}
use Rattle.order_check.proofs.CutAhead.{same_in_whole}

-- lists of ids that go up by one from the same number, with the same members, have one length
same_length : (s first : ℕ) (xs ys : List TxnId) → AreFrom s first xs → AreFrom s first ys → ((id : TxnId) → IsAt xs id → IsAt ys id) → length xs ≤ length ys
same_length s first xs ys from_x from_y members = by_case (cases_lt (length ys) (length xs))
  where
    by_last : (o : Option TxnId) → slice_get xs (length ys) ≡ o → IsSome o → length xs ≤ length ys
    by_last None e some = absurd (false≢true some)
    by_last (Some id) e some = by_place (members id (length ys, e))
      where
        by_place : IsAt ys id → length xs ≤ length ys
        by_place (k, at) = let a = (from_x (length ys) id e).1 in let b = (from_y k id at).1 in let within = slice_get_within ys k id at in absurd (omega (arith, a, b))

    by_case : (length ys < length xs) ⊎ (length xs ≤ length ys) → length xs ≤ length ys
    by_case (inr fine) = fine
    by_case (inl short) = by_last (slice_get xs (length ys)) refl (within_some xs (length ys) short)

drop_behind : {X : Type 0} (xs ys : List X) → drop (length xs) (xs ++ ys) ≡ ys
drop_behind [] ys = refl
drop_behind (x ∷ xs) ys = drop_behind xs ys

take_ahead : {X : Type 0} (xs ys : List X) → take (length xs) (xs ++ ys) ≡ xs
take_ahead [] ys = refl
take_ahead (x ∷ xs) ys = ap (λ zs. x ∷ zs) (take_ahead xs ys)

drop_ids : (s m n : ℕ) (txns : List Txn) → drop n (ids_from s m txns) ≡ ids_from s (m + n) (drop n txns)
drop_ids s m zero txns = let e : m + 0 ≡ m = omega arith in rw e refl
drop_ids s m (suc n) [] = refl
drop_ids s m (suc n) (txn ∷ txns) = let e : m + suc n ≡ m + 1 + n = omega arith in rw e (drop_ids s (m + 1) n txns)

take_drop : {X : Type 0} (n : ℕ) (xs : List X) → take n xs ++ drop n xs ≡ xs
take_drop zero xs = refl
take_drop (suc n) [] = refl
take_drop (suc n) (x ∷ xs) = ap (λ zs. x ∷ zs) (take_drop n xs)

ids_append : (s m : ℕ) (xs ys : List Txn) → ids_from s m (xs ++ ys) ≡ ids_from s m xs ++ ids_from s (m + length xs) ys
ids_append s m [] ys = let e : m + 0 ≡ m = omega arith in rw e refl
ids_append s m (x ∷ xs) ys = let e : m + suc (length xs) ≡ m + 1 + length xs = omega arith in rw e (ap (λ ids. record { session = s; number = m } ∷ ids) (ids_append s (m + 1) xs ys))

-- the ids of a session in a front of an order go up by one from the mark
front_from : (parts : Parts) (ahead after : List TxnId) (s : ℕ) → filter (in_session s) (ahead ++ after) ≡ remaining_ids parts s → AreFrom s (mark_of parts s) (filter (in_session s) ahead)
front_from parts ahead after s kept k id at =
    let whole : slice_get (filter (in_session s) ahead ++ filter (in_session s) after) k ≡ Some id = place_left (filter (in_session s) ahead) (filter (in_session s) after) k id at in
    let there : slice_get (remaining_ids parts s) k ≡ Some id = subst (λ ids. slice_get ids k ≡ Some id) (sym (filter-append (in_session s) ahead after) ∙ kept) whole in
    let place = id_at_place s (mark_of parts s) (remaining_of parts s) k id there in
    (place.1, place.2)

-- as many of a session stand ahead as are gone of it
ahead_count : (front whole new : Parts) (gone ahead : List TxnId) (last : FinMap nat_cmp TxnId) (s m : ℕ) → Gone front whole new gone last ahead → AreFrom s m (filter (in_session s) ahead) → AreFrom s m (filter (in_session s) gone) → length (filter (in_session s) ahead) ≡ length (filter (in_session s) gone)
ahead_count front whole new gone ahead last s m g from_ahead from_gone =
    let there = same_length s m (filter (in_session s) ahead) (filter (in_session s) gone) from_ahead from_gone (λ id at. moved ahead gone (λ x. (g.members x).0) id (of (filter (in_session s) ahead) from_ahead id at) at) in
    let back = same_length s m (filter (in_session s) gone) (filter (in_session s) ahead) from_gone from_ahead (λ id at. moved gone ahead (λ x. (g.members x).1) id (of (filter (in_session s) gone) from_gone id at) at) in
    omega arith
  where
    of : (ids : List TxnId) → AreFrom s m ids → (id : TxnId) → IsAt ids id → id.session ≡ s
    of ids from id (k, at) = (from k id at).0

    moved : (xs ys : List TxnId) → ((x : TxnId) → Contains xs x → Contains ys x) → (id : TxnId) → id.session ≡ s → IsAt (filter (in_session s) xs) id → IsAt (filter (in_session s) ys) id
    moved xs ys members id session at = at_filter (in_session s) ys id (eq-eqb s id.session (sym session)) (at_place ys id (members id (at_contains xs id (filtered_at (in_session s) xs id at))))

-- what a fence leaves behind explains what the cut leaves
pub rest_explains : (front whole new : Parts) (fence : TxnId) (gone ahead after : List TxnId) (last : FinMap nat_cmp TxnId) (is_open : ℕ → Type 0) → IsFront front whole → IsSettled front is_open fence → IsCutAt front fence gone last → IsCutOf whole new gone last → Gone front whole new gone last ahead → AreBehind whole gone after → Explains whole (ahead ++ after) → Explains new after
rest_explains front whole new fence gone ahead after last is_open is settled cut leaves g behind h = record {
  sessions = λ s.
      let of = filter (in_session s) in
      let m = mark_of whole s in
      let from_gone : AreFrom s m (of gone) = subst (λ k. AreFrom s k (of gone)) (mark_same front whole is s) (are_from s (mark_of front s) (of gone) (gone_without_gap front fence gone last is_open s settled cut)) in
      let from_ahead = front_from whole ahead after s (h.sessions s) in
      let count = ahead_count front whole new gone ahead last s m g from_ahead from_gone in
      let counted : Rattle.order_check.specs.Settled.count_in gone s ≡ length (of ahead) = sym (length-filter (in_session s) gone) ∙ sym count in
      let both : of ahead ++ of after ≡ remaining_ids whole s = sym (filter-append (in_session s) ahead after) ∙ h.sessions s in
      let rest : of after ≡ drop (length (of ahead)) (remaining_ids whole s) = sym (drop_behind (of ahead) (of after)) ∙ ap (drop (length (of ahead))) both in
      let mark : m + length (of ahead) ≡ mark_of new s = ap (λ n. m + n) (sym counted) ∙ sym (leaves.marks s) in
      let left : drop (length (of ahead)) (remaining_of whole s) ≡ remaining_of new s = ap (λ n. drop n (remaining_of whole s)) (sym counted) ∙ sym (leaves.remain s) in
      rest ∙ drop_ids s m (length (of ahead)) (remaining_of whole s) ∙ ap (λ k. ids_from s k (drop (length (of ahead)) (remaining_of whole s))) mark ∙ ap (ids_from s (mark_of new s)) left;
  reads = λ b1 b2 id split txn at.
      let whole_at : remaining_at whole id ≡ Some txn = same_txn id txn at in
      let split_all : ahead ++ after ≡ (ahead ++ b1) ++ id ∷ b2 = ap (λ ids. ahead ++ ids) split ∙ sym (append_assoc ahead b1 (id ∷ b2)) in
      let met = h.reads (ahead ++ b1) b2 id split_all txn whole_at in
      let first : AreBehind whole gone b1 = λ x has. behind x (subst (λ ids. Contains ids x) (sym split) (contains_left b1 (id ∷ b2) x has)) in
      All-weaker (λ read. Meets whole (ahead ++ b1) read.0 read.1) (λ read. Meets new b1 read.0 read.1) (λ read. met_new front whole new gone ahead b1 last read.0 read.1 g first) txn.reads met;
}
  where
    same_txn : (id : TxnId) (txn : Txn) → remaining_at new id ≡ Some txn → remaining_at whole id ≡ Some txn
    same_txn id txn at =
        let r = g.looks.new_remains id (ap Rattle.std.specs.Option.is_some at) in
        sym (g.looks.same id r.0 r.1) ∙ at

-- a read in a front that was met there is met in the whole, where its source was received in the front
met_grown : (front whole : Parts) (ids : List TxnId) (key : ℕ) (source : Source) → IsFront front whole → ((id : TxnId) → Contains ids id → Remains front id) → ((writer : TxnId) → source ≡ By writer → IsReceived front writer) → Meets front ids key source → Meets whole ids key source
met_grown front whole ids key source is remain received met = by_source source received met
  where
    none : NoneWrites (remaining_at front) key ids → NoneWrites (remaining_at whole) key ids
    none quiet k d within = ap (λ o. writes_key o key) (same_in_whole front whole is (get_or ids k d) (remain (get_or ids k d) (place_has ids k d within))) ∙ quiet k d within

    none_of : (some : List TxnId) → ((id : TxnId) → Contains some id → Remains front id) → NoneWrites (remaining_at front) key some → NoneWrites (remaining_at whole) key some
    none_of some remain quiet k d within = ap (λ o. writes_key o key) (same_in_whole front whole is (get_or some k d) (remain (get_or some k d) (place_has some k d within))) ∙ quiet k d within

    last_same : last_gone front key ≡ last_gone whole key
    last_same = ap (λ last. get last key) is.last

    by_source : (source : Source) → ((writer : TxnId) → source ≡ By writer → IsReceived front writer) → Meets front ids key source → Meets whole ids key source
    by_source Init received met = (sym last_same ∙ met.0, none met.1)
    by_source (By writer) received met = record {
      gone = λ was. let m = met.gone (let same = mark_same front whole is writer.session in omega arith) in (sym last_same ∙ m.0, none m.1);
      remaining = λ r. by_kind r (received_cases front writer (received writer refl));
    }
      where
        grown : Remains front writer → IsLastWriter (remaining_at front) key ids writer → IsLastWriter (remaining_at whole) key ids writer
        grown r (older, newer, e, writes, quiet) = (older, newer, e, ap (λ o. writes_key o key) (same_in_whole front whole is writer r) ∙ writes, none_of newer (λ id has. remain id (subst (λ zs. Contains zs id) (sym e) (in_tail older newer id has))) quiet)
          where
            in_tail : (xs ys : List TxnId) (id : TxnId) → Contains ys id → Contains (xs ++ writer ∷ ys) id
            in_tail xs ys id has = let (k, at) = at_place ys id has in at_contains (xs ++ writer ∷ ys) id (length xs + suc k, place_right xs (writer ∷ ys) (suc k) id at)

        by_kind : Remains whole writer → IsGone front writer ⊎ Remains front writer → IsLastWriter (remaining_at whole) key ids writer
        by_kind r (inl was) = absurd (gone_past whole writer (let same = mark_same front whole is writer.session in omega arith) r)
        by_kind r (inr here) = grown here (met.remaining here)

-- where a list in two pieces is split, one of the pieces is split
data SplitIn {X : Type 0} (xs ys front back : List X) (x : X) : Type 0 where
  in_first : (between : List X) → xs ≡ front ++ x ∷ between → back ≡ between ++ ys → SplitIn xs ys front back x
  in_second : (between : List X) → ys ≡ between ++ x ∷ back → front ≡ xs ++ between → SplitIn xs ys front back x

split_in : {X : Type 0} (xs ys front back : List X) (x : X) → xs ++ ys ≡ front ++ x ∷ back → SplitIn xs ys front back x
split_in [] ys front back x e = in_second front e refl
split_in (z ∷ xs) ys [] back x e = let same : z ≡ x = cc in let rest : back ≡ xs ++ ys = cc in in_first xs (λ i. same i ∷ xs) rest
split_in {X} (z ∷ xs) ys (w ∷ front) back x e = more (split_in xs ys front back x (let rest : xs ++ ys ≡ front ++ x ∷ back = cc in rest))
  where
    same : z ≡ w
    same = cc

    more : SplitIn xs ys front back x → SplitIn (z ∷ xs) ys (w ∷ front) back x
    more (in_first between e f) = in_first between (λ i. same i ∷ e i) f
    more (in_second between e f) = in_second between e (λ i. sym same i ∷ f i)

-- the front of an order of the front, and an order of what the cut leaves, make one of the whole
pub whole_explains : (front whole new : Parts) (fence : TxnId) (gone ahead after rest : List TxnId) (last : FinMap nat_cmp TxnId) (is_open : ℕ → Type 0) → IsFront front whole → IsSettled front is_open fence → IsCutAt front fence gone last → IsCutOf whole new gone last → Gone front whole new gone last ahead → Explains front (ahead ++ after) → Explains new rest → Explains whole (ahead ++ rest)
whole_explains front whole new fence gone ahead after rest last is_open is settled cut leaves g h n = record {
  sessions = λ s.
      let of = filter (in_session s) in
      let m = mark_of whole s in
      let marks = mark_same front whole is s in
      let from_gone : AreFrom s (mark_of front s) (of gone) = are_from s (mark_of front s) (of gone) (gone_without_gap front fence gone last is_open s settled cut) in
      let from_ahead = front_from front ahead after s (h.sessions s) in
      let count = ahead_count front whole new gone ahead last s (mark_of front s) g from_ahead from_gone in
      let k = length (of ahead) in
      let counted : Rattle.order_check.specs.Settled.count_in gone s ≡ k = sym (length-filter (in_session s) gone) ∙ sym count in
      let first : of ahead ++ of after ≡ remaining_ids front s = sym (filter-append (in_session s) ahead after) ∙ h.sessions s in
      let later = is.remain s in
      let grown : remaining_ids whole s ≡ remaining_ids front s ++ ids_from s (mark_of front s + length (remaining_of front s)) later.0 = sym (ap (λ q. ids_from s q (remaining_of whole s)) marks) ∙ ap (ids_from s (mark_of front s)) later.1 ∙ ids_append s (mark_of front s) (remaining_of front s) later.0 in
      let all : remaining_ids whole s ≡ of ahead ++ (of after ++ ids_from s (mark_of front s + length (remaining_of front s)) later.0) = grown ∙ ap (λ ids. ids ++ ids_from s (mark_of front s + length (remaining_of front s)) later.0) (sym first) ∙ append_assoc (of ahead) (of after) _ in
      let head : take k (remaining_ids whole s) ≡ of ahead = ap (take k) all ∙ take_ahead (of ahead) _ in
      let mark : m + k ≡ mark_of new s = ap (λ j. m + j) (sym counted) ∙ sym (leaves.marks s) in
      let left : drop k (remaining_of whole s) ≡ remaining_of new s = ap (λ j. drop j (remaining_of whole s)) (sym counted) ∙ sym (leaves.remain s) in
      let tail : drop k (remaining_ids whole s) ≡ of rest = drop_ids s m k (remaining_of whole s) ∙ ap (λ q. ids_from s q (drop k (remaining_of whole s))) mark ∙ ap (ids_from s (mark_of new s)) left ∙ sym (n.sessions s) in
      filter-append (in_session s) ahead rest ∙ ap (λ ids. ids ++ of rest) (sym head) ∙ ap (λ ids. take k (remaining_ids whole s) ++ ids) (sym tail) ∙ take_drop k (remaining_ids whole s);
  reads = λ b1 b2 id split txn at. by_piece b1 b2 id txn at (split_in ahead rest b1 b2 id split);
}
  where
    remains_ahead : (id : TxnId) → Contains ahead id → Remains front id
    remains_ahead id has = fronts_remain front fence id settled.remains ((cut.front id).0 ((g.members id).0 has))

    in_tail : (xs ys : List TxnId) (id : TxnId) → Contains (xs ++ id ∷ ys) id
    in_tail xs ys id = at_contains (xs ++ id ∷ ys) id (length xs + 0, place_right xs (id ∷ ys) 0 id refl)

    behind_rest : (b1 b2 : List TxnId) (id : TxnId) → rest ≡ b1 ++ id ∷ b2 → AreBehind whole gone b1
    behind_rest b1 b2 id e x has = g.looks.new_remains x (order_remains new rest x n (at_place rest x (subst (λ ids. Contains ids x) (sym e) (contains_left b1 (id ∷ b2) x has))))

    by_piece : (b1 b2 : List TxnId) (id : TxnId) (txn : Txn) → remaining_at whole id ≡ Some txn → SplitIn ahead rest b1 b2 id → All (λ read. Meets whole b1 read.0 read.1) txn.reads
    by_piece b1 b2 id txn at (in_second between e f) =
        let has : Contains rest id = subst (λ ids. Contains ids id) (sym e) (in_tail between b2 id) in
        let r = g.looks.new_remains id (order_remains new rest id n (at_place rest id has)) in
        let new_at : remaining_at new id ≡ Some txn = g.looks.same id r.0 r.1 ∙ at in
        let met = n.reads between b2 id e txn new_at in
        subst (λ ids. All (λ read. Meets whole ids read.0 read.1) txn.reads) (sym f)
        (All-weaker (λ read. Meets new between read.0 read.1) (λ read. Meets whole (ahead ++ between) read.0 read.1) (λ read. met_whole front whole new gone ahead between last read.0 read.1 g (behind_rest between b2 id e)) txn.reads met)
    by_piece b1 b2 id txn at (in_first between e f) =
        let has : Contains ahead id = subst (λ ids. Contains ids id) (sym e) (in_tail b1 between id) in
        let front_at : remaining_at front id ≡ Some txn = sym (same_in_whole front whole is id (remains_ahead id has)) ∙ at in
        let split : ahead ++ after ≡ b1 ++ id ∷ (between ++ after) = ap (λ ids. ids ++ after) e ∙ append_assoc b1 (id ∷ between) after in
        let met = h.reads b1 (between ++ after) id split txn front_at in
        let first : (x : TxnId) → Contains b1 x → Remains front x = λ x inside. remains_ahead x (subst (λ ids. Contains ids x) (sym e) (contains_left b1 (id ∷ between) x inside)) in
        λ k d within.
        let read = get_or txn.reads k d in
        let reads_it : (writer : TxnId) → read.1 ≡ By writer → ReadsKey front id read.0 (By writer) = λ writer same. rw front_at (k, within, get_or_default txn.reads k (read.0, By writer) d within ∙ (λ i. (read.0, same i))) in
        met_grown front whole b1 read.0 read.1 is first (λ writer same. settled.nothing_pending id writer read.0 ((cut.front id).0 ((g.members id).0 has)) (reads_it writer same)) (met k d within)
