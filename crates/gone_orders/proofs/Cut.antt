-- A cut puts what it takes out behind what is gone.
use Rattle.std.proofs.Common.{◌≡◌, ◌≢◌, ◌↔◌, ℕ, suc, ◌+◌, ◌-◌, ◌<◌, ◌≤◌, ◌⊎◌, Bool, true, false, List, [], ◌∷◌, ◌++◌, length, filter, take, drop, get_or, Some, None, Option, refl, sym, ap, subst, ◌∙◌, inl, inr, arith, append_assoc, length-drop, nat_cmp}
use Rattle.std.specs.Prelude.{All, Contains}
use Rattle.std.specs.List.{slice_get}
use Rattle.std.specs.FinMap.{FinMap, get}
use Rattle.std.proofs.lemmas.Bool.{cases_lt, false≢true}
use Rattle.std.proofs.lemmas.List.{get_or_default, take-append-le}
use Rattle.std.proofs.lemmas.List.Elements.{filter-append}
use Rattle.std.proofs.lemmas.List.Sums.{length-filter}
use Rattle.list_lemmas.proofs.Places.{IsAt, filtered_at, place_left, place_right, split_at, within_some}
use Rattle.list_lemmas.specs.Precedes.{Precedes}
use Rattle.txn.specs.declared.transactions.TxnId.{TxnId}
use Rattle.txn.specs.declared.transactions.Source.{Source}
use Rattle.txn.specs.declared.transactions.Source.TheVariants.{By}
use Rattle.txn.specs.declared.transactions.Txn.{Txn}
use Rattle.txn.specs.History.{History, in_session, ids_from, session_of, txn_at, writes_key, NoneWrites, IsLastWriter}
use Rattle.order_check.specs.declared.remainder.Parts.{Parts}
use Rattle.order_check.specs.Based.{HasGoneBase, IsGone, IsReceived, Remains, last_gone, mark_of, remaining_at, remaining_ids, remaining_of}
use Rattle.order_check.specs.CutLaws.{SplitsAt}
use Rattle.order_check.specs.Cuts.{IsFront, IsSettledBehind}
use Rattle.order_check.specs.Explains.{Explains}
use Rattle.order_check.specs.Known.{WritesKey}
use Rattle.order_check.specs.Settled.{InFront, IsCutAt, IsCutOf, IsSettled, count_in, or_else}
use Rattle.order_check.specs.StandsFor.{IsOpenSession}
use Rattle.order_check.proofs.CutAhead.{gone_ahead}
use Rattle.order_check.proofs.CutCounts.{at_contains}
use Rattle.order_check.proofs.CutFits.{few_gone}
use Rattle.order_check.proofs.CutReads.{Gone, LastOf, place_has, silent, split_ahead, split_behind, written}
use Rattle.order_check.proofs.Fenced.{at_place, fence_splits, mark_same, order_remains, remains_whole}
use Rattle.order_check.proofs.KeptFronts.{front_itself}
use Rattle.order_check.proofs.SessionIds.{id_at_place}
use Rattle.gone_orders.specs.Behind.{IsMetForGood, RemainsBehind}
use Rattle.gone_orders.specs.Laws.{CutsMoveOn}
use Rattle.gone_orders.proofs.Lists.{AgreeOn, at_right, at_seam, behind_seam, drop_more, front_taken, ids_append, ids_taken, last_ahead, last_behind, none_moved, not_there, same_last, take_more}
use Rattle.gone_orders.proofs.Looks.{at_session, gone_base, not_past, remains_same}
use Rattle.gone_orders.proofs.Orders.{front_same, met_for_good}

-- the base of a front is that of the whole
base_front : (front whole : Parts) → IsFront front whole → HasGoneBase whole → HasGoneBase front
base_front front whole is base key writer e =
    let gone = base key writer (sym (ap (λ last. get last key) is.last) ∙ e) in
    let mark = is.marks writer.session in
    omega (arith, gone, mark)

-- nothing remains behind a front of itself
settled_itself : (front : Parts) (fence : TxnId) → IsSettled front (IsOpenSession front) fence → IsSettledBehind front front fence
settled_itself front fence settled = record {
  settled = record {
    remains = settled.remains;
    ordered = settled.ordered;
    past = λ s within none. absurd none;
    nothing_pending = settled.nothing_pending;
    last_writers = settled.last_writers;
  };
  behind = λ id remains out. absurd (out remains);
}

-- ---- what the cut takes out, in the order

-- a front of the old parts, an order that explains it, and what of that a cut takes out and leaves
record Cutting (past : List TxnId) (front old new : Parts) (history : History) (fence : TxnId) (gone : List TxnId) (last : FinMap nat_cmp TxnId) (ahead after : List TxnId) : Type 0 where
  behind : RemainsBehind past old history
  order : Explains front (ahead ++ after)
  is : IsFront front old
  settled : IsSettled front (IsOpenSession front) fence
  cut : IsCutAt front fence gone last
  leaves : IsCutOf old new gone last
  g : Gone front old new gone last ahead

-- what stands ahead remained in the front
ahead_remains : (past : List TxnId) (front old new : Parts) (history : History) (fence : TxnId) (gone : List TxnId) (last : FinMap nat_cmp TxnId) (ahead after : List TxnId) → Cutting past front old new history fence gone last ahead after → (id : TxnId) → IsAt ahead id → Remains front id
ahead_remains past front old new history fence gone last ahead after c id (k, here) = order_remains front (ahead ++ after) id c.order (k, place_left ahead after k id here)

-- of a session as many stand ahead as the cut takes out
ahead_length : (past : List TxnId) (front old new : Parts) (history : History) (fence : TxnId) (gone : List TxnId) (last : FinMap nat_cmp TxnId) (ahead after : List TxnId) (s : ℕ) → Cutting past front old new history fence gone last ahead after → filter (in_session s) ahead ≡ take (length (filter (in_session s) ahead)) (remaining_ids front s) → length (filter (in_session s) ahead) ≡ count_in gone s
ahead_length past front old new history fence gone last ahead after s c taken = by_case (cases_lt k n) (cases_lt n k)
  where
    of : List TxnId
    of = filter (in_session s) ahead

    k : ℕ
    k = length of

    n : ℕ
    n = count_in gone s

    m : ℕ
    m = mark_of front s

    place : (j : ℕ) (id : TxnId) → slice_get of j ≡ Some id → (id.session ≡ s) × (id.number ≡ m + j)
    place j id at =
        let there : slice_get (remaining_ids front s) j ≡ Some id = subst (λ ids. slice_get ids j ≡ Some id) both (place_left of (filter (in_session s) after) j id at) in
        let p = id_at_place s m (remaining_of front s) j id there in
        (p.1, p.2)
      where
        both : of ++ filter (in_session s) after ≡ remaining_ids front s
        both = sym (filter-append (in_session s) ahead after) ∙ c.order.sessions s

    new_mark : mark_of new s ≡ m + n
    new_mark = c.leaves.marks s ∙ ap (λ q. q + n) (sym (mark_same front old c.is s))

    -- at each of its places stands what is gone
    too_many : n < k → ⊥
    too_many more = by_found (slice_get of n) refl (within_some of n more)
      where
        by_found : (o : Option TxnId) → slice_get of n ≡ o → Rattle.std.specs.Option.is_some o ≡ true → ⊥
        by_found None e some = false≢true some
        by_found (Some id) e some =
            let p = place n id e in
            let gone_now = c.g.looks.gone_new id ((c.g.members id).0 (at_contains ahead id (filtered_at (in_session s) ahead id (n, e)))) in
            let mark : mark_of new id.session ≡ m + n = ap (mark_of new) p.0 ∙ new_mark in
            omega (arith, gone_now, mark, p.1)

    too_few : k < n → ⊥
    too_few less = by_side (c.g.looks.new_gone id now)
      where
        id : TxnId
        id = record { session = s; number = m + k }

        now : IsGone new id
        now = let mark = new_mark in omega (arith, mark, less)

        stands : IsAt of id → ⊥
        stands (j, at) = let p = place j id at in let within = Rattle.std.proofs.lemmas.Option.slice_get_within of j id at in let e : m + k ≡ m + j = p.1 in omega (arith, e, within)

        by_side : IsGone old id ⊎ Contains gone id → ⊥
        by_side (inl was) = let same = mark_same front old c.is s in omega (arith, was, same)
        by_side (inr has) = stands (at_session ahead id (at_place ahead id ((c.g.members id).1 has)))

    by_case : (k < n) ⊎ (n ≤ k) → (n < k) ⊎ (k ≤ n) → k ≡ n
    by_case (inl less) other = absurd (too_few less)
    by_case (inr one) (inl more) = absurd (too_many more)
    by_case (inr one) (inr two) = omega (arith, one, two)

-- of a session the first that remain stand ahead
ahead_ids : (past : List TxnId) (front old new : Parts) (history : History) (fence : TxnId) (gone : List TxnId) (last : FinMap nat_cmp TxnId) (ahead after : List TxnId) (s : ℕ) → Cutting past front old new history fence gone last ahead after → filter (in_session s) ahead ≡ ids_from s (mark_of old s) (take (count_in gone s) (drop (mark_of old s) (session_of history s)))
ahead_ids past front old new history fence gone last ahead after s c =
    taken
    ∙ ap (λ k. take k (remaining_ids front s)) counted
    ∙ ids_taken s (mark_of front s) n (remaining_of front s)
    ∙ ap (λ m. ids_from s m (take n (remaining_of front s))) (mark_same front old c.is s)
    ∙ ap (ids_from s (mark_of old s)) (sym (take-append-le n (remaining_of front s) later.0 within) ∙ ap (take n) (sym later.1 ∙ c.behind.remain s))
  where
    n : ℕ
    n = count_in gone s

    later : (later : List Txn) × (remaining_of old s ≡ remaining_of front s ++ later)
    later = c.is.remain s

    taken : filter (in_session s) ahead ≡ take (length (filter (in_session s) ahead)) (remaining_ids front s)
    taken = front_taken (filter (in_session s) ahead) (filter (in_session s) after) (remaining_ids front s) (sym (filter-append (in_session s) ahead after) ∙ c.order.sessions s)

    counted : length (filter (in_session s) ahead) ≡ n
    counted = ahead_length past front old new history fence gone last ahead after s c taken

    within : n ≤ length (remaining_of front s)
    within =
        let few = few_gone front front fence gone last (IsOpenSession front) (front_itself front) c.settled c.cut s in
        let sum : n ≡ length (filter (in_session s) gone) = sym (length-filter (in_session s) gone) in
        omega (arith, few, sum)

-- ---- its reads

-- a read of what stands ahead in the front is from what was received there
received_ahead : (past : List TxnId) (front old new : Parts) (history : History) (fence : TxnId) (gone : List TxnId) (last : FinMap nat_cmp TxnId) (ahead after : List TxnId) → Cutting past front old new history fence gone last ahead after → (id : TxnId) (txn : Txn) → IsAt ahead id → remaining_at front id ≡ Some txn → (k : ℕ) (d : ℕ × Source) → k < length txn.reads → (writer : TxnId) → (get_or txn.reads k d).1 ≡ By writer → IsReceived front writer
received_ahead past front old new history fence gone last ahead after c id txn here at k d within writer e =
    c.settled.nothing_pending id writer (get_or txn.reads k d).0 ((c.cut.front id).0 ((c.g.members id).0 (at_contains ahead id here))) (subst (λ o. Rattle.std.specs.Prelude.IsSomeAnd o (λ (t : Txn). Contains t.reads ((get_or txn.reads k d).0, By writer))) (sym at) (k, within, get_or_default txn.reads k ((get_or txn.reads k d).0, By writer) d within ∙ pair))
  where
    pair : get_or txn.reads k d ≡ ((get_or txn.reads k d).0, By writer)
    pair = ap (λ source. ((get_or txn.reads k d).0, source)) e

ahead_met : (past : List TxnId) (front old new : Parts) (history : History) (fence : TxnId) (gone : List TxnId) (last : FinMap nat_cmp TxnId) (ahead after : List TxnId) → Cutting past front old new history fence gone last ahead after → (before back : List TxnId) (id : TxnId) → ahead ≡ before ++ id ∷ back → (txn : Txn) → txn_at history id ≡ Some txn → All (λ read. IsMetForGood history (past ++ before) read.0 read.1) txn.reads
ahead_met past front old new history fence gone last ahead after c before back id split txn at = λ k d within.
    met_for_good past front old history before (get_or txn.reads k d).0 (get_or txn.reads k d).1 c.behind c.is first (received_ahead past front old new history fence gone last ahead after c id txn here found k d within)
    (c.order.reads before (back ++ after) id (ap (λ ids. ids ++ after) split ∙ append_assoc before (id ∷ back) after) txn found k d within)
  where
    here : IsAt ahead id
    here = subst (λ ids. IsAt ids id) (sym split) (at_seam before back id)

    found : remaining_at front id ≡ Some txn
    found = front_same past front old history id c.behind c.is (ahead_remains past front old new history fence gone last ahead after c id here) ∙ at

    first : (x : TxnId) → IsAt before x → Remains front x
    first x (j, place) = ahead_remains past front old new history fence gone last ahead after c x (subst (λ ids. IsAt ids x) (sym split) (j, place_left before (id ∷ back) j x place))

-- ---- its last writers

-- a last writer ahead: whatever else there writes the key is known to come before it
last_known : (past : List TxnId) (front old new : Parts) (history : History) (fence : TxnId) (gone : List TxnId) (last : FinMap nat_cmp TxnId) (ahead after : List TxnId) (key : ℕ) (writer : TxnId) → Cutting past front old new history fence gone last ahead after → AgreeOn (remaining_at old) (txn_at history) ahead → Contains gone writer → WritesKey old writer key → ((other : TxnId) → Contains gone other → WritesKey old other key → other ≢ writer → Rattle.order_check.specs.Settled.IsBefore front other writer) → IsLastWriter (txn_at history) key ahead writer
last_known past front old new history fence gone last ahead after key writer c agree has writes before = by_place (at_place ahead writer ((c.g.members writer).1 has))
  where
    by_place : IsAt ahead writer → IsLastWriter (txn_at history) key ahead writer
    by_place (i, at) = by_split (split_at ahead i writer at)
      where
        by_split : (older newer : List TxnId) × (ahead ≡ older ++ writer ∷ newer) × (length older ≡ i) → IsLastWriter (txn_at history) key ahead writer
        by_split (older, newer, e, size) = (older, newer, e, ap (λ o. writes_key o key) (sym (agree writer (i, at))) ∙ writes, none)
          where
            behind_it : (x : TxnId) → IsAt newer x → Precedes ahead writer x
            behind_it x (j, there) = (length older + 0, length older + suc j, omega arith, subst (λ ids. slice_get ids (length older + 0) ≡ Some writer) (sym e) (place_right older (writer ∷ newer) 0 writer refl), subst (λ ids. slice_get ids (length older + suc j) ≡ Some x) (sym e) (place_right older (writer ∷ newer) (suc j) x there))

            at_ahead : (x : TxnId) → IsAt newer x → IsAt ahead x
            at_ahead x there = subst (λ ids. IsAt ids x) (sym e) (behind_seam older newer writer x there)

            -- two that precede each other stand twice
            twice : (x : TxnId) → Precedes ahead writer x → Precedes ahead x writer → ⊥
            twice x (i1, j1, b1, w1, x1) (j2, i2, b2, x2, w2) = by_order (cases_lt i1 i2)
              where
                by_order : (i1 < i2) ⊎ (i2 ≤ i1) → ⊥
                by_order (inl less) = c.g.once writer (i1, i2, less, w1, w2)
                by_order (inr over) = c.g.once x (j2, j1, omega (arith, b1, b2, over), x2, x1)

            same_twice : (x : TxnId) → IsAt newer x → x ≡ writer → ⊥
            same_twice x there same = c.g.once writer (subst (Precedes ahead writer) same (behind_it x there))

            no_writer : (x : TxnId) → IsAt newer x → writes_key (txn_at history x) key ≡ true → ⊥
            no_writer x there writes_x =
                let in_gone = (c.g.members x).0 (at_contains ahead x (at_ahead x there)) in
                twice x (behind_it x there) (c.g.known x writer (before x in_gone (ap (λ o. writes_key o key) (agree x (at_ahead x there)) ∙ writes_x) (same_twice x there)) in_gone has)

            none : NoneWrites (txn_at history) key newer
            none k d within = by_test (writes_key (txn_at history (get_or newer k d)) key) refl
              where
                by_test : (t : Bool) → writes_key (txn_at history (get_or newer k d)) key ≡ t → writes_key (txn_at history (get_or newer k d)) key ≡ false
                by_test true test = absurd (no_writer (get_or newer k d) (at_place newer (get_or newer k d) (place_has newer k d within)) test)
                by_test false test = test

last_moves : (past : List TxnId) (front old new : Parts) (history : History) (fence : TxnId) (gone : List TxnId) (last : FinMap nat_cmp TxnId) (ahead after : List TxnId) (key : ℕ) (writer : TxnId) → Cutting past front old new history fence gone last ahead after → LastOf front old gone last key → (last_gone new key ≡ Some writer) ↔ IsLastWriter (txn_at history) key (past ++ ahead) writer
last_moves past front old new history fence gone last ahead after key writer c (silent none quiet) = (
  λ is. last_ahead (txn_at history) key past ahead writer ((c.behind.last key writer).0 (sym as_before ∙ is)) none_ahead,
  λ last. as_before ∙ (c.behind.last key writer).1 (by_side last),
)
  where
    as_before : last_gone new key ≡ last_gone old key
    as_before = c.g.writers key ∙ ap (λ o. or_else o (last_gone old key)) none

    agree : AgreeOn (remaining_at old) (txn_at history) ahead
    agree id here = remains_same past old history id c.behind (remains_whole front old c.is id (ahead_remains past front old new history fence gone last ahead after c id here))

    writes_none : (x : TxnId) → IsAt ahead x → writes_key (txn_at history x) key ≡ true → ⊥
    writes_none x here writes = quiet x ((c.g.members x).0 (at_contains ahead x here)) (ap (λ o. writes_key o key) (agree x here) ∙ writes)

    none_ahead : NoneWrites (txn_at history) key ahead
    none_ahead k d within = by_test (writes_key (txn_at history (get_or ahead k d)) key) refl
      where
        by_test : (t : Bool) → writes_key (txn_at history (get_or ahead k d)) key ≡ t → writes_key (txn_at history (get_or ahead k d)) key ≡ false
        by_test true test = absurd (writes_none (get_or ahead k d) (at_place ahead (get_or ahead k d) (place_has ahead k d within)) test)
        by_test false test = test

    by_side : IsLastWriter (txn_at history) key (past ++ ahead) writer → IsLastWriter (txn_at history) key past writer
    by_side (older, newer, e, writes, none_newer) = by_split (split_ahead past ahead older newer writer e (λ has. writes_none writer (at_place ahead writer has) writes))
      where
        by_split : (between : List TxnId) × (newer ≡ between ++ ahead) × (past ≡ older ++ writer ∷ between) → IsLastWriter (txn_at history) key past writer
        by_split (between, f, is) = (older, between, is, writes, Rattle.gone_orders.proofs.Lists.all_left (λ id. writes_key (txn_at history id) key ≡ false) between ahead (subst (NoneWrites (txn_at history) key) f none_newer))
last_moves past front old new history fence gone last ahead after key writer c (written one named has writes before) = (
  λ is. (let same : one ≡ writer = (let both : Some one ≡ Some writer = sym now ∙ is in cc) in subst (IsLastWriter (txn_at history) key (past ++ ahead)) same there),
  λ last. now ∙ ap (λ (w : TxnId). Some w) (same_last (txn_at history) key (past ++ ahead) one writer there last),
)
  where
    now : last_gone new key ≡ Some one
    now = c.g.writers key ∙ ap (λ o. or_else o (last_gone old key)) named

    agree : AgreeOn (remaining_at old) (txn_at history) ahead
    agree id here = remains_same past old history id c.behind (remains_whole front old c.is id (ahead_remains past front old new history fence gone last ahead after c id here))

    there : IsLastWriter (txn_at history) key (past ++ ahead) one
    there = last_behind (txn_at history) key past ahead one (last_known past front old new history fence gone last ahead after key one c agree has writes before)

-- ---- all of it

gone_on : (past : List TxnId) (front old new : Parts) (history : History) (fence : TxnId) (gone : List TxnId) (last : FinMap nat_cmp TxnId) (ahead after : List TxnId) → Cutting past front old new history fence gone last ahead after → RemainsBehind (past ++ ahead) new history
gone_on past front old new history fence gone last ahead after c = record {
  sessions = c.behind.sessions ∙ sym c.leaves.sessions;
  marks = λ s.
      let m = c.leaves.marks s in
      let low = c.behind.marks s in
      let few = few_gone front old fence gone last (IsOpenSession front) c.is c.settled c.cut s in
      let sum : count_in gone s ≡ length (filter (in_session s) gone) = sym (length-filter (in_session s) gone) in
      let long : length (remaining_of old s) ≡ length (session_of history s) - mark_of old s = ap length (c.behind.remain s) ∙ length-drop (mark_of old s) (session_of history s) in
      omega (arith, m, low, few, sum, long);
  gone = λ s.
      let m = mark_of old s in
      let n = count_in gone s in
      let whole = session_of history s in
      let long : m ≡ 0 + length (take m whole) = (let l = Rattle.std.proofs.lemmas.List.length-take-le m whole (c.behind.marks s) in omega (arith, l)) in
      filter-append (in_session s) past ahead
      ∙ ap (λ ids. ids ++ filter (in_session s) ahead) (c.behind.gone s)
      ∙ ap (λ ids. ids_from s 0 (take m whole) ++ ids) (ahead_ids past front old new history fence gone last ahead after s c ∙ ap (λ k. ids_from s k (take n (drop m whole))) long)
      ∙ sym (ids_append s 0 (take m whole) (take n (drop m whole)))
      ∙ ap (ids_from s 0) (sym (take_more m n whole))
      ∙ ap (λ k. ids_from s 0 (take k whole)) (sym (c.leaves.marks s));
  remain = λ s.
      c.leaves.remain s
      ∙ ap (drop (count_in gone s)) (c.behind.remain s)
      ∙ drop_more (mark_of old s) (count_in gone s) (session_of history s)
      ∙ ap (λ k. drop k (session_of history s)) (sym (c.leaves.marks s));
  met = λ before back id split txn at. by_gone before back id split txn at (cases_lt id.number (mark_of old id.session));
  last = λ key writer. last_moves past front old new history fence gone last ahead after key writer c (c.g.key_of key);
}
  where
    by_gone : (before back : List TxnId) (id : TxnId) → past ++ ahead ≡ before ++ id ∷ back → (txn : Txn) → txn_at history id ≡ Some txn → (id.number < mark_of old id.session) ⊎ (mark_of old id.session ≤ id.number) → All (λ read. IsMetForGood history before read.0 read.1) txn.reads
    by_gone before back id split txn at (inl was) = by_split (split_ahead past ahead before back id split (λ has. Rattle.order_check.proofs.Received.gone_past old id was (remains_whole front old c.is id (ahead_remains past front old new history fence gone last ahead after c id (at_place ahead id has)))))
      where
        by_split : (between : List TxnId) × (back ≡ between ++ ahead) × (past ≡ before ++ id ∷ between) → All (λ read. IsMetForGood history before read.0 read.1) txn.reads
        by_split (between, e, f) = c.behind.met before between id f txn at
    by_gone before back id split txn at (inr rest) = by_split (split_behind past ahead before back id split (not_past past old history id c.behind rest))
      where
        by_split : (between : List TxnId) × (ahead ≡ between ++ id ∷ back) × (before ≡ past ++ between) → All (λ read. IsMetForGood history before read.0 read.1) txn.reads
        by_split (between, e, f) = subst (λ ids. All (λ read. IsMetForGood history ids read.0 read.1) txn.reads) (sym f) (ahead_met past front old new history fence gone last ahead after c between back id e txn at)

pub moves_on : CutsMoveOn
moves_on past front old new history order fence gone last behind h is settled cut leaves = by_split (fence_splits front front fence order base_here (front_itself front) (settled_itself front fence settled) h)
  where
    base : HasGoneBase old
    base = gone_base past old history behind

    base_here : HasGoneBase front
    base_here = base_front front old is base

    by_split : SplitsAt front fence order → (ahead after : List TxnId) × (order ≡ ahead ++ after) × ((id : TxnId) → Contains ahead id ↔ Contains gone id) × RemainsBehind (past ++ ahead) new history
    by_split (before, after, e, in_before, in_after) =
        let split : Explains front (before ++ fence ∷ after) = subst (λ ids. Explains front ids) e h in
        let seam : before ++ fence ∷ after ≡ (before ++ fence ∷ []) ++ after = sym (append_assoc before (fence ∷ []) after) in
        let g = gone_ahead front old new front fence gone last (IsOpenSession front) before after base base_here is (front_itself front) settled cut leaves split in_before in_after in
        let c : Cutting past front old new history fence gone last (before ++ fence ∷ []) after = record { behind = behind; order = subst (λ ids. Explains front ids) seam split; is = is; settled = settled; cut = cut; leaves = leaves; g = g } in
        (before ++ fence ∷ [], after, e ∙ seam, g.members, gone_on past front old new history fence gone last (before ++ fence ∷ []) after c)
