-- Fronts of parts that have of each session what stands below a count.
use Rattle.std.proofs.Common.{◌≡◌, ℕ, zero, suc, ◌-◌, ◌<◌, ◌≤◌, Bool, true, false, not, List, [], ◌∷◌, length, map, take, Option, Some, None, refl, sym, ap, subst, ◌∙◌, inl, inr, arith, get_or, length-append}
use Rattle.std.specs.Prelude.{slice_get, slice_index, sum_by}
use Rattle.std.specs.Option.{is_some}
use Rattle.std.specs.FinMap as finite
use Rattle.std.proofs.lemmas.Bool.{cases_lt}
use Rattle.std.proofs.lemmas.List.{ext_get_or, length-map, length-take-le, take_all, take-append-le}
use Rattle.std.proofs.lemmas.List.Sums.{sum_by-cons}
use Rattle.txn.specs.declared.transactions.Txn.{Txn}
use Rattle.txn.specs.declared.transactions.TxnId.{TxnId}
use Rattle.txn.specs.History.{History, session_of}
use Rattle.order_check.specs.declared.remainder.Parts.{Parts}
use Rattle.order_check.specs.Based.{mark_of, remaining_of, remaining_at, received_count, received_counts, IsReceived}
use Rattle.order_check.specs.CountedFronts.{below_counts, front_of, front_at, AreFrontCounts, IsCountedFront}
use Rattle.order_check.specs.Cuts.{IsKeptFront}
use Rattle.order_check.specs.Good.{IsGood}
use Rattle.order_check.proofs.Received.{gone_none, look_up, remains_received}

-- parts with these marks, of which this remains
abbrev plain : List ℕ → History → Parts
plain marks remain = record { base = record { last = finite.empty; marks = marks }; remain = remain; closed = []; most_sessions = 0; limit = 0 }

pub counts_length : (marks : List ℕ) (remain : History) → length marks ≡ length remain → length (received_counts (plain marks remain)) ≡ length remain
counts_length [] [] e = refl
counts_length [] (txns ∷ remain) e = absurd (omega arith)
counts_length (mark ∷ marks) [] e = absurd (omega arith)
counts_length (mark ∷ marks) (txns ∷ remain) e = let e' : length marks ≡ length remain = omega arith in ap suc (counts_length marks remain e')

pub counts_at : (marks : List ℕ) (remain : History) (s : ℕ) → length marks ≡ length remain → get_or (received_counts (plain marks remain)) s 0 ≡ received_count (plain marks remain) s
counts_at [] [] s e = refl
counts_at [] (txns ∷ remain) s e = absurd (omega arith)
counts_at (mark ∷ marks) [] s e = absurd (omega arith)
counts_at (mark ∷ marks) (txns ∷ remain) zero e = refl
counts_at (mark ∷ marks) (txns ∷ remain) (suc s) e = let e' : length marks ≡ length remain = omega arith in counts_at marks remain s e'

-- the sessions of a front

below_length : (marks counts : List ℕ) (remain : History) → length marks ≡ length remain → length counts ≡ length remain → length (below_counts marks counts remain) ≡ length remain
below_length [] [] [] a b = refl
below_length [] [] (txns ∷ remain) a b = absurd (omega arith)
below_length [] (count ∷ counts) [] a b = refl
below_length [] (count ∷ counts) (txns ∷ remain) a b = absurd (omega arith)
below_length (mark ∷ marks) [] [] a b = refl
below_length (mark ∷ marks) [] (txns ∷ remain) a b = absurd (omega arith)
below_length (mark ∷ marks) (count ∷ counts) [] a b = refl
below_length (mark ∷ marks) (count ∷ counts) (txns ∷ remain) a b =
    let a' : length marks ≡ length remain = omega arith in
    let b' : length counts ≡ length remain = omega arith in
    ap suc (below_length marks counts remain a' b')

below_at : (marks counts : List ℕ) (remain : History) (s : ℕ) → length marks ≡ length remain → length counts ≡ length remain → session_of (below_counts marks counts remain) s ≡ take (get_or counts s 0 - get_or marks s 0) (session_of remain s)
below_at [] [] [] s a b = refl
below_at [] [] (txns ∷ remain) s a b = absurd (omega arith)
below_at [] (count ∷ counts) [] s a b = absurd (omega arith)
below_at [] (count ∷ counts) (txns ∷ remain) s a b = absurd (omega arith)
below_at (mark ∷ marks) [] [] s a b = absurd (omega arith)
below_at (mark ∷ marks) [] (txns ∷ remain) s a b = absurd (omega arith)
below_at (mark ∷ marks) (count ∷ counts) [] s a b = absurd (omega arith)
below_at (mark ∷ marks) (count ∷ counts) (txns ∷ remain) zero a b = refl
below_at (mark ∷ marks) (count ∷ counts) (txns ∷ remain) (suc s) a b =
    let a' : length marks ≡ length remain = omega arith in
    let b' : length counts ≡ length remain = omega arith in
    below_at marks counts remain s a' b'

below_sum : (marks counts : List ℕ) (remain : History) → sum_by length (below_counts marks counts remain) ≤ sum_by length remain
below_sum [] [] [] = omega arith
below_sum [] [] (txns ∷ remain) = omega arith
below_sum [] (count ∷ counts) [] = omega arith
below_sum [] (count ∷ counts) (txns ∷ remain) = omega arith
below_sum (mark ∷ marks) [] [] = omega arith
below_sum (mark ∷ marks) [] (txns ∷ remain) = omega arith
below_sum (mark ∷ marks) (count ∷ counts) [] = omega arith
below_sum (mark ∷ marks) (count ∷ counts) (txns ∷ remain) =
    let rest = below_sum marks counts remain in
    let few = fewer (count - mark) txns in
    omega (arith, rest, few, sum_by-cons (λ (list : List Txn). length list) (take (count - mark) txns) (below_counts marks counts remain), sum_by-cons (λ (list : List Txn). length list) txns remain)
  where
    fewer : (n : ℕ) (list : List Txn) → length (take n list) ≤ length list
    fewer zero list = omega arith
    fewer (suc n) [] = omega arith
    fewer (suc n) (x ∷ xs) = let less = fewer n xs in omega (arith, less)

pub front_length : (parts : Parts) (counts : List ℕ) → IsGood parts → AreFrontCounts parts counts → length (front_of parts counts).remain ≡ length parts.remain
front_length parts counts good is = below_length parts.base.marks counts parts.remain good.marks is.sessions

pub front_session : (parts : Parts) (counts : List ℕ) (s : ℕ) → IsGood parts → AreFrontCounts parts counts → remaining_of (front_of parts counts) s ≡ take (slice_index counts s - mark_of parts s) (remaining_of parts s)
front_session parts counts s good is = below_at parts.base.marks counts parts.remain s good.marks is.sessions

pub front_received : (parts : Parts) (counts : List ℕ) (s : ℕ) → IsGood parts → AreFrontCounts parts counts → received_count (front_of parts counts) s ≡ slice_index counts s
front_received parts counts s good is =
    let low = is.low s in
    let high = is.high s in
    let within : slice_index counts s - mark_of parts s ≤ length (remaining_of parts s) = omega (arith, low, high) in
    let long : length (remaining_of (front_of parts counts) s) ≡ slice_index counts s - mark_of parts s = ap (λ (list : List Txn). length list) (front_session parts counts s good is) ∙ length-take-le (slice_index counts s - mark_of parts s) (remaining_of parts s) within in
    omega (arith, low, long)

-- transactions of a front

get_take : {X : Type 0} (k : ℕ) (xs : List X) (i : ℕ) → i < k → slice_get (take k xs) i ≡ slice_get xs i
get_take zero xs i lt = absurd (omega arith)
get_take (suc k) [] i lt = refl
get_take (suc k) (x ∷ xs) zero lt = refl
get_take (suc k) (x ∷ xs) (suc i) lt = get_take k xs i (omega arith)

got_of_take : {X : Type 0} (k : ℕ) (xs : List X) (i : ℕ) (x : X) → slice_get (take k xs) i ≡ Some x → slice_get xs i ≡ Some x
got_of_take zero xs i x e = cc
got_of_take (suc k) [] i x e = e
got_of_take (suc k) (y ∷ xs) zero x e = e
got_of_take (suc k) (y ∷ xs) (suc i) x e = got_of_take k xs i x e

none_or : {X : Type 0} (found : Option X) → (is_some found ≡ true → ⊥) → found ≡ None
none_or None h = refl
none_or (Some x) h = absurd (h refl)

pub front_has : (parts : Parts) (counts : List ℕ) (id : TxnId) → IsGood parts → AreFrontCounts parts counts → id.number < slice_index counts id.session → remaining_at parts id ≡ remaining_at (front_of parts counts) id
front_has parts counts id good is below =
    elim (cases_lt id.number (mark_of parts id.session)) [
      | inl gone ↦ gone_none parts id gone ∙ sym (gone_none (front_of parts counts) id gone)
      | inr at ↦
          let s = id.session in
          let place : id.number - mark_of parts s < slice_index counts s - mark_of parts s = omega arith in
          look_up parts id at
          ∙ sym (get_take (slice_index counts s - mark_of parts s) (remaining_of parts s) (id.number - mark_of parts s) place)
          ∙ ap (λ (list : List Txn). slice_get list (id.number - mark_of parts s)) (sym (front_session parts counts s good is))
          ∙ sym (look_up (front_of parts counts) id at)
    ]

-- nothing is looked up of an id that isn't received
pub not_received : (parts : Parts) (id : TxnId) → (IsReceived parts id → ⊥) → remaining_at parts id ≡ None
not_received parts id out = none_or (remaining_at parts id) (λ some. out (remains_received parts id some))

-- the same facts of a value that is the front

pub view_received : (view parts : Parts) (counts : List ℕ) (s : ℕ) → front_of parts counts ≡ view → IsGood parts → AreFrontCounts parts counts → slice_index counts s ≡ received_count view s
view_received view parts counts s e good is = sym (front_received parts counts s good is) ∙ ap (λ (p : Parts). received_count p s) e

pub view_session : (view parts : Parts) (counts : List ℕ) (s : ℕ) (list : List Txn) (count mark : ℕ) → front_of parts counts ≡ view → IsGood parts → AreFrontCounts parts counts → count ≡ received_count view s → mark ≡ mark_of view s → list ≡ remaining_of parts s → take (count - mark) list ≡ remaining_of view s
view_session view parts counts s list count mark e good is c m l =
    let to : count - mark ≡ slice_index counts s - mark_of parts s = omega (arith, c, m, view_received view parts counts s e good is, ap (λ (p : Parts). mark_of p s) e) in
    ap (λ (n : ℕ). take n list) to ∙ ap (λ (txns : List Txn). take (slice_index counts s - mark_of parts s) txns) l
    ∙ sym (front_session parts counts s good is) ∙ ap (λ (p : Parts). remaining_of p s) e

pub view_within : (view parts : Parts) (counts : List ℕ) (s : ℕ) (list : List Txn) (count mark : ℕ) → front_of parts counts ≡ view → IsGood parts → AreFrontCounts parts counts → count ≡ received_count view s → mark ≡ mark_of view s → list ≡ remaining_of parts s → count - mark ≡ length (take (count - mark) list)
view_within view parts counts s list count mark e good is c m l =
    let high = is.high s in
    let within : count - mark ≤ length list = omega (arith, high, c, m, view_received view parts counts s e good is, ap (λ (p : Parts). mark_of p s) e, ap (λ (txns : List Txn). length txns) l) in
    sym (length-take-le (count - mark) list within)

pub view_has : (view parts : Parts) (counts : List ℕ) (id : TxnId) → front_of parts counts ≡ view → IsGood parts → AreFrontCounts parts counts → IsReceived view id → remaining_at parts id ≡ remaining_at view id
view_has view parts counts id e good is received =
    let below : id.number < slice_index counts id.session = omega (arith, received, view_received view parts counts id.session e good is) in
    front_has parts counts id good is below ∙ ap (λ (p : Parts). remaining_at p id) e

pub view_length : (view parts : Parts) (counts : List ℕ) → front_of parts counts ≡ view → IsGood parts → AreFrontCounts parts counts → length parts.remain ≡ length view.remain
view_length view parts counts e good is = sym (front_length parts counts good is) ∙ ap (λ (p : Parts). length p.remain) e

-- a front keeps the rules, whatever its flags

good_flagged : (parts : Parts) (counts : List ℕ) (closed : List Bool) → IsGood parts → AreFrontCounts parts counts → length closed ≡ length parts.remain → IsGood (record parts { remain = below_counts parts.base.marks counts parts.remain; closed = closed })
good_flagged parts counts closed good is flags =
    let long = front_length parts counts good is in
    let in_parts : (s n : ℕ) (txn : Txn) → slice_get (remaining_of (front_of parts counts) s) n ≡ Some txn → slice_get (remaining_of parts s) n ≡ Some txn = λ s n txn h.
    got_of_take (slice_index counts s - mark_of parts s) (remaining_of parts s) n txn (ap (λ (list : List Txn). slice_get list n) (sym (front_session parts counts s good is)) ∙ h) in
    record {
      some_sessions = omega (arith, long, good.some_sessions);
      few_sessions = omega (arith, long, good.few_sessions);
      low_sessions = good.low_sessions;
      marks = good.marks ∙ sym long;
      closed = flags ∙ sym long;
      some_limit = good.some_limit;
      low_limit = good.low_limit;
      room = omega (arith, below_sum parts.base.marks counts parts.remain, good.room);
      numbers = λ s. omega (arith, front_received parts counts s good is, is.high s, good.numbers s);
      well_formed = λ s n txn h. good.well_formed s n txn (in_parts s n txn h);
      short = λ s n txn h. good.short s n txn (in_parts s n txn h);
      base = good.base;
    }

pub good_of : (parts : Parts) (counts : List ℕ) → IsGood parts → AreFrontCounts parts counts → IsGood (front_of parts counts)
good_of parts counts good is = good_flagged parts counts parts.closed good is good.closed

pub good_at : (parts : Parts) (counts : List ℕ) (live : List Bool) → IsGood parts → AreFrontCounts parts counts → length live ≡ length parts.remain → IsGood (front_at parts counts live)
good_at parts counts live good is flags = good_flagged parts counts (map not live) good is (length-map live not ∙ flags)

pub good_front : (front parts : Parts) (counts : List ℕ) (live : List Bool) → front ≡ front_at parts counts live → IsGood parts → AreFrontCounts parts counts → length live ≡ length parts.remain → IsGood front
good_front front parts counts live e good is flags = subst (λ (p : Parts). IsGood p) (sym e) (good_at parts counts live good is flags)

-- the front of all that was received is the whole

pub whole_counts : (parts : Parts) → IsGood parts → AreFrontCounts parts (received_counts parts)
whole_counts parts good = record {
  sessions = counts_length parts.base.marks parts.remain good.marks;
  low = λ s. omega (arith, counts_at parts.base.marks parts.remain s good.marks);
  high = λ s. omega (arith, counts_at parts.base.marks parts.remain s good.marks);
}

-- a front that was kept is that of its own counts

not_twice : (flags : List Bool) → map not (map not flags) ≡ flags
not_twice [] = refl
not_twice (true ∷ flags) = ap (λ (rest : List Bool). true ∷ rest) (not_twice flags)
not_twice (false ∷ flags) = ap (λ (rest : List Bool). false ∷ rest) (not_twice flags)

pub kept_is_counted : (front parts : Parts) → IsKeptFront front parts → front.most_sessions ≡ parts.most_sessions → front.limit ≡ parts.limit → IsGood front → IsGood parts → IsCountedFront front parts
kept_is_counted front parts kept most limit there good = record { counts = are; same = λ i. record { base = sym kept.base i; remain = same i; closed = not_twice front.closed i; most_sessions = sym most i; limit = sym limit i } }
  where
    counts : List ℕ
    counts = received_counts front

    at : (s : ℕ) → slice_index (received_counts front) s ≡ received_count front s
    at s = counts_at front.base.marks front.remain s there.marks

    more : (s : ℕ) → length (remaining_of front s) ≤ length (remaining_of parts s)
    more s = omega (arith, ap (λ (list : List Txn). length list) (kept.is_front.remain s).1, length-append (remaining_of front s) (kept.is_front.remain s).0)

    are : AreFrontCounts parts (received_counts front)
    are = record {
      sessions = counts_length front.base.marks front.remain there.marks ∙ kept.sessions;
      low = λ s. omega (arith, at s, kept.is_front.marks s);
      high = λ s. omega (arith, at s, kept.is_front.marks s, more s);
    }

    session : (s : ℕ) → session_of (below_counts parts.base.marks (received_counts front) parts.remain) s ≡ session_of front.remain s
    session s =
        let later = kept.is_front.remain s in
        let count : slice_index (received_counts front) s - mark_of parts s ≡ length (remaining_of front s) = omega (arith, at s, kept.is_front.marks s) in
        front_session parts (received_counts front) s good are
        ∙ ap (λ (n : ℕ). take n (remaining_of parts s)) count
        ∙ ap (λ (list : List Txn). take (length (remaining_of front s)) list) later.1
        ∙ take-append-le (length (remaining_of front s)) (remaining_of front s) later.0 (omega arith)
        ∙ take_all (length (remaining_of front s)) (remaining_of front s) (omega arith)

    same : below_counts parts.base.marks (received_counts front) parts.remain ≡ front.remain
    same = ext_get_or [] (below_counts parts.base.marks (received_counts front) parts.remain) front.remain (front_length parts (received_counts front) good are ∙ sym kept.sessions) (λ s within. session s)
