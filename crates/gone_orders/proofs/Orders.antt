-- Which orders of what remains explain the whole behind what is gone.
use Rattle.std.proofs.Common.{◌≡◌, ℕ, ◌+◌, ◌<◌, ◌≤◌, ◌⊎◌, false, List, ◌∷◌, ◌++◌, length, filter, take, drop, Some, None, Option, refl, sym, ap, subst, ◌∙◌, inl, inr, arith, append_assoc, IsSome}
use Rattle.std.specs.Prelude.{All}
use Rattle.std.specs.FinMap.{get}
use Rattle.std.proofs.lemmas.Bool.{cases_lt}
use Rattle.std.proofs.lemmas.List.{length-take-le, take-append-drop}
use Rattle.std.proofs.lemmas.List.Elements.{All-append, All-weaker, filter-append}
use Rattle.std.proofs.lemmas.Option.{none-some}
use Rattle.list_lemmas.proofs.Places.{IsAt, some_within}
use Rattle.txn.specs.declared.transactions.TxnId.{TxnId}
use Rattle.txn.specs.declared.transactions.Source.{Source}
use Rattle.txn.specs.declared.transactions.Source.TheVariants.{Init, By}
use Rattle.txn.specs.declared.transactions.Txn.{Txn}
use Rattle.txn.specs.History.{History, Received, in_session, ids_from, session_of, txn_at, writes_key, NoneWrites, IsLastWriter}
use Rattle.order_check.specs.declared.remainder.Parts.{Parts}
use Rattle.order_check.specs.Based.{IsGone, IsReceived, Remains, last_gone, mark_of, remaining_at}
use Rattle.order_check.specs.Cuts.{IsFront}
use Rattle.order_check.specs.Explains.{Explains, KeepsSessions, Meets}
use Rattle.order_check.specs.Whole.{ExplainsWhole, MeetsWhole}
use Rattle.order_check.proofs.CutAhead.{same_in_whole}
use Rattle.order_check.proofs.CutReads.{split_ahead, split_behind}
use Rattle.order_check.proofs.Fenced.{at_place, order_remains, remains_whole}
use Rattle.order_check.proofs.KeptFronts.{front_itself}
use Rattle.order_check.proofs.Received.{received_cases, gone_past}
use Rattle.gone_orders.specs.Behind.{IsMetForGood, RemainsBehind}
use Rattle.gone_orders.specs.Laws.{OrdersBehindAreOfTheWhole, UnwrittenKeysHaveNoLast}
use Rattle.gone_orders.proofs.Lists.{AgreeOn, all_left, all_right, at_seam, ids_append, last_ahead, last_behind, last_moved, last_or_none, none_moved, not_there, same_rest}
use Rattle.gone_orders.proofs.Looks.{kept_at, not_gone, not_past, remains_same, same_txn}

-- what remains in a front of the parts is looked up there as in the history
pub front_same : (past : List TxnId) (front parts : Parts) (history : History) (id : TxnId) → RemainsBehind past parts history → IsFront front parts → Remains front id → remaining_at front id ≡ txn_at history id
front_same past front parts history id behind is remains = sym (same_in_whole front parts is id remains) ∙ remains_same past parts history id behind (remains_whole front parts is id remains)

-- nothing of the past writes a key that has no last gone writer
none_past : (past : List TxnId) (parts : Parts) (history : History) (key : ℕ) → RemainsBehind past parts history → last_gone parts key ≡ None → NoneWrites (txn_at history) key past
none_past past parts history key behind none = by_last (last_or_none (txn_at history) key past)
  where
    by_last : ((writer : TxnId) × IsLastWriter (txn_at history) key past writer) ⊎ NoneWrites (txn_at history) key past → NoneWrites (txn_at history) key past
    by_last (inl (writer, last)) = absurd (none-some writer (sym none ∙ (behind.last key writer).1 last))
    by_last (inr quiet) = quiet

-- it has one where something does
some_past : (past : List TxnId) (parts : Parts) (history : History) (key : ℕ) → RemainsBehind past parts history → NoneWrites (txn_at history) key past → last_gone parts key ≡ None
some_past past parts history key behind none = by_found (last_gone parts key) refl
  where
    writer_there : (writer : TxnId) → IsLastWriter (txn_at history) key past writer → ⊥
    writer_there writer (older, newer, e, writes, quiet) = not_there (txn_at history) key past writer none (subst (λ ids. IsAt ids writer) (sym e) (at_seam older newer writer)) writes

    by_found : (found : Option TxnId) → last_gone parts key ≡ found → last_gone parts key ≡ None
    by_found None e = e
    by_found (Some writer) e = absurd (writer_there writer ((behind.last key writer).0 e))

pub unwritten : UnwrittenKeysHaveNoLast
unwritten past parts history key behind = (none_past past parts history key behind, some_past past parts history key behind)

-- a read that is met in a front, by what remains there, is met behind the past for good, where its source was received there
pub met_for_good : (past : List TxnId) (front parts : Parts) (history : History) (between : List TxnId) (key : ℕ) (source : Source) → RemainsBehind past parts history → IsFront front parts → ((id : TxnId) → IsAt between id → Remains front id) → ((writer : TxnId) → source ≡ By writer → IsReceived front writer) → Meets front between key source → IsMetForGood history (past ++ between) key source
met_for_good past front parts history between key Init behind is remain received met = All-append (λ id. writes_key (txn_at history id) key ≡ false) past between (none_past past parts history key behind (sym (ap (λ last. get last key) is.last) ∙ met.0)) (none_moved (remaining_at front) (txn_at history) key between (λ id here. front_same past front parts history id behind is (remain id here)) met.1)
met_for_good past front parts history between key (By writer) behind is remain received met = by_kind (received_cases front writer (received writer refl))
  where
    agree : AgreeOn (remaining_at front) (txn_at history) between
    agree id here = front_same past front parts history id behind is (remain id here)

    by_kind : IsGone front writer ⊎ Remains front writer → IsLastWriter (txn_at history) key (past ++ between) writer
    by_kind (inl gone) = let m = met.gone gone in last_ahead (txn_at history) key past between writer ((behind.last key writer).0 (sym (ap (λ last. get last key) is.last) ∙ m.0)) (none_moved (remaining_at front) (txn_at history) key between agree m.1)
    by_kind (inr remains) = last_behind (txn_at history) key past between writer (last_moved (remaining_at front) (txn_at history) key between writer agree (met.remaining remains))

-- what is received of the history was received of the parts
pub received_parts : (past : List TxnId) (parts : Parts) (history : History) (id : TxnId) → RemainsBehind past parts history → Received history id → IsReceived parts id
received_parts past parts history id behind received = by_case (cases_lt id.number (mark_of parts id.session))
  where
    by_case : (id.number < mark_of parts id.session) ⊎ (mark_of parts id.session ≤ id.number) → IsReceived parts id
    by_case (inl gone) = omega (arith, gone)
    by_case (inr at) = Rattle.order_check.proofs.Received.remains_received parts id (subst (λ o. IsSome o) (sym (same_txn past parts history id behind at)) received)

pub parts_received : (past : List TxnId) (parts : Parts) (history : History) (id : TxnId) → RemainsBehind past parts history → IsGone parts id → Received history id
parts_received past parts history id behind gone = let m = behind.marks id.session in Rattle.list_lemmas.proofs.Places.within_some (session_of history id.session) id.number (omega (arith, m, gone))

-- ---- from the parts to the whole

-- a read that is met for good is met
met_whole : (history : History) (front : List TxnId) (key : ℕ) (source : Source) → IsMetForGood history front key source → MeetsWhole history front key source
met_whole history front key Init met = met
met_whole history front key (By writer) met = λ received. met

-- a read that is met by what remains is met behind the past
met_behind : (past : List TxnId) (parts : Parts) (history : History) (between : List TxnId) (key : ℕ) (source : Source) → RemainsBehind past parts history → ((id : TxnId) → IsAt between id → Remains parts id) → Meets parts between key source → MeetsWhole history (past ++ between) key source
met_behind past parts history between key Init behind remain met = met_for_good past parts parts history between key Init behind (front_itself parts) remain (λ writer e. absurd cc) met
met_behind past parts history between key (By writer) behind remain met = λ received. met_for_good past parts parts history between key (By writer) behind (front_itself parts) remain (λ other e. (let same : writer ≡ other = cc in subst (IsReceived parts) same (received_parts past parts history writer behind received))) met

explains_all : (past : List TxnId) (parts : Parts) (history : History) (order : List TxnId) → RemainsBehind past parts history → Explains parts order → ExplainsWhole history (past ++ order)
explains_all past parts history order behind h = record {
  sessions = λ s.
      let m = mark_of parts s in
      let whole = session_of history s in
      let long : 0 + length (take m whole) ≡ m = (let l = length-take-le m whole (behind.marks s) in omega (arith, l)) in
      filter-append (in_session s) past order
      ∙ ap (λ ids. ids ++ filter (in_session s) order) (behind.gone s)
      ∙ ap (λ ids. ids_from s 0 (take m whole) ++ ids) (h.sessions s ∙ ap (ids_from s m) (behind.remain s) ∙ ap (λ k. ids_from s k (drop m whole)) (sym long))
      ∙ sym (ids_append s 0 (take m whole) (drop m whole))
      ∙ ap (ids_from s 0) (take-append-drop m whole);
  reads = λ front back id split txn at. by_gone front back id split txn at (cases_lt id.number (mark_of parts id.session));
}
  where
    remain : (id : TxnId) → IsAt order id → Remains parts id
    remain id here = order_remains parts order id h here

    by_gone : (front back : List TxnId) (id : TxnId) → past ++ order ≡ front ++ id ∷ back → (txn : Txn) → txn_at history id ≡ Some txn → (id.number < mark_of parts id.session) ⊎ (mark_of parts id.session ≤ id.number) → All (λ read. MeetsWhole history front read.0 read.1) txn.reads
    by_gone front back id split txn at (inl gone) = by_split (split_ahead past order front back id split (λ has. gone_past parts id gone (remain id (at_place order id has))))
      where
        by_split : (between : List TxnId) × (back ≡ between ++ order) × (past ≡ front ++ id ∷ between) → All (λ read. MeetsWhole history front read.0 read.1) txn.reads
        by_split (between, e, f) = All-weaker (λ read. IsMetForGood history front read.0 read.1) (λ read. MeetsWhole history front read.0 read.1) (λ read. met_whole history front read.0 read.1) txn.reads (behind.met front between id f txn at)
    by_gone front back id split txn at (inr rest) = by_split (split_behind past order front back id split (not_past past parts history id behind rest))
      where
        by_split : (between : List TxnId) × (order ≡ between ++ id ∷ back) × (front ≡ past ++ between) → All (λ read. MeetsWhole history front read.0 read.1) txn.reads
        by_split (between, e, f) =
            let first : (x : TxnId) → IsAt between x → Remains parts x = λ x here. remain x (subst (λ ids. IsAt ids x) (sym e) (in_front between (id ∷ back) x here)) in
            subst (λ ids. All (λ read. MeetsWhole history ids read.0 read.1) txn.reads) (sym f)
            (All-weaker (λ read. Meets parts between read.0 read.1) (λ read. MeetsWhole history (past ++ between) read.0 read.1) (λ read. met_behind past parts history between read.0 read.1 behind first) txn.reads
            (h.reads between back id e txn (same_txn past parts history id behind rest ∙ at)))
          where
            in_front : (xs ys : List TxnId) (x : TxnId) → IsAt xs x → IsAt (xs ++ ys) x
            in_front xs ys x (k, here) = (k, Rattle.list_lemmas.proofs.Places.place_left xs ys k x here)

-- ---- from the whole to the parts

-- a read that is met behind the past is met by what remains
meets_rest : (past : List TxnId) (parts : Parts) (history : History) (between : List TxnId) (key : ℕ) (source : Source) → RemainsBehind past parts history → ((id : TxnId) → IsAt between id → mark_of parts id.session ≤ id.number) → MeetsWhole history (past ++ between) key source → Meets parts between key source
meets_rest past parts history between key Init behind rest met = (
  some_past past parts history key behind (all_left (λ id. writes_key (txn_at history id) key ≡ false) past between met),
  none_moved (txn_at history) (remaining_at parts) key between (λ id here. sym (same_txn past parts history id behind (rest id here))) (all_right (λ id. writes_key (txn_at history id) key ≡ false) past between met),
)
meets_rest past parts history between key (By writer) behind rest met = record {
  gone = λ gone. by_gone gone (met (parts_received past parts history writer behind gone));
  remaining = λ remains. by_rest remains (met (subst (λ o. IsSome o) (remains_same past parts history writer behind remains) remains));
}
  where
    agree : AgreeOn (txn_at history) (remaining_at parts) between
    agree id here = sym (same_txn past parts history id behind (rest id here))

    by_gone : IsGone parts writer → IsLastWriter (txn_at history) key (past ++ between) writer → (last_gone parts key ≡ Some writer) × NoneWrites (remaining_at parts) key between
    by_gone gone (older, newer, is, writes, none) = by_split (split_ahead past between older newer writer is (λ has. (let at = rest writer (at_place between writer has) in omega (arith, at, gone))))
      where
        by_split : (middle : List TxnId) × (newer ≡ middle ++ between) × (past ≡ older ++ writer ∷ middle) → (last_gone parts key ≡ Some writer) × NoneWrites (remaining_at parts) key between
        by_split (middle, e, f) =
            let all = subst (NoneWrites (txn_at history) key) e none in (
              (behind.last key writer).1 (older, middle, f, writes, all_left (λ id. writes_key (txn_at history id) key ≡ false) middle between all),
              none_moved (txn_at history) (remaining_at parts) key between agree (all_right (λ id. writes_key (txn_at history id) key ≡ false) middle between all),
            )

    by_rest : Remains parts writer → IsLastWriter (txn_at history) key (past ++ between) writer → IsLastWriter (remaining_at parts) key between writer
    by_rest remains (older, newer, is, writes, none) = by_split (split_behind past between older newer writer is (not_past past parts history writer behind (not_gone parts writer remains)))
      where
        by_split : (middle : List TxnId) × (between ≡ middle ++ writer ∷ newer) × (older ≡ past ++ middle) → IsLastWriter (remaining_at parts) key between writer
        by_split (middle, e, f) = last_moved (txn_at history) (remaining_at parts) key between writer agree (middle, newer, e, writes, none)

explains_rest : (past : List TxnId) (parts : Parts) (history : History) (order : List TxnId) → RemainsBehind past parts history → ExplainsWhole history (past ++ order) → Explains parts order
explains_rest past parts history order behind h = record {
  sessions = keeps;
  reads = λ front back id split txn at.
      let rest = not_gone parts id (ap Rattle.std.specs.Option.is_some at) in
      let split_all : past ++ order ≡ (past ++ front) ++ id ∷ back = ap (λ ids. past ++ ids) split ∙ sym (append_assoc past front (id ∷ back)) in
      All-weaker (λ read. MeetsWhole history (past ++ front) read.0 read.1) (λ read. Meets parts front read.0 read.1) (λ read. meets_rest past parts history front read.0 read.1 behind (λ x here. kept_at parts order x keeps (subst (λ ids. IsAt ids x) (sym split) (in_front front (id ∷ back) x here)))) txn.reads
      (h.reads (past ++ front) back id split_all txn (sym (same_txn past parts history id behind rest) ∙ at));
}
  where
    in_front : (xs ys : List TxnId) (x : TxnId) → IsAt xs x → IsAt (xs ++ ys) x
    in_front xs ys x (k, here) = (k, Rattle.list_lemmas.proofs.Places.place_left xs ys k x here)

    keeps : KeepsSessions parts order
    keeps s =
        let m = mark_of parts s in
        let whole = session_of history s in
        let long : m ≡ 0 + length (take m whole) = (let l = length-take-le m whole (behind.marks s) in omega (arith, l)) in
        let both : ids_from s 0 (take m whole) ++ filter (in_session s) order ≡ ids_from s 0 (take m whole) ++ ids_from s (0 + length (take m whole)) (drop m whole) =
        ap (λ ids. ids ++ filter (in_session s) order) (sym (behind.gone s))
        ∙ sym (filter-append (in_session s) past order)
        ∙ h.sessions s
        ∙ ap (ids_from s 0) (sym (take-append-drop m whole))
        ∙ ids_append s 0 (take m whole) (drop m whole) in
        same_rest (ids_from s 0 (take m whole)) (filter (in_session s) order) (ids_from s (0 + length (take m whole)) (drop m whole)) both
        ∙ ap (λ k. ids_from s k (drop m whole)) (sym long)
        ∙ ap (ids_from s m) (sym (behind.remain s))

pub orders_behind : OrdersBehindAreOfTheWhole
orders_behind past parts history behind order = (explains_all past parts history order behind, explains_rest past parts history order behind)
