-- A history is rewritten session by session, and a session transaction by transaction.
use Rattle.std.proofs.Common.{◌≡◌, ℕ, ◌+◌, ◌<◌, ◌≤◌, ◌^◌, Bool, true, false, List, [], ◌∷◌, ◌++◌, length, get_or, take, Some, None, Option, refl, sym, ap, subst, ◌∙◌, arith, suc, add-zero, append_assoc}
use Rattle.std.specs.Prelude.{All, IfSome}
use Rattle.std.specs.List.{slice_get}
use Rattle.std.proofs.lemmas.List.{take_more, length-take-le}
use Rattle.std.proofs.lemmas.Option.{slice_get_within}
use Rattle.list_lemmas.proofs.Options.{if_some_from}
use Rattle.txn.specs.declared.transactions.Source.{Source}
use Rattle.txn.specs.declared.transactions.Txn.{Txn}
use Rattle.strict_histories.specs.declared.timed.Span.{Span}
use Rattle.strict_histories.specs.declared.timed.TimedTxn.{TimedTxn}
use Rattle.strict_histories.specs.Rewriting.{end_read, ended_before, ends_since, last_before, last_since, later_or, strict_sessions, strict_txn, strict_txns}
use Rattle.strict_histories.specs.Strict.{TimedHistory}
use Rattle.strict_histories.specs.Ends.{or_last}
use Rattle.strict_histories.proofs.EndReads.{found_before, since_is_last}

pub later_or_last : (b passes : Bool) (n number : ℕ) (found : Option ℕ) → later_or (or_last b n found) passes number ≡ or_last b n (later_or found passes number)
later_or_last true passes n number found = refl
later_or_last false passes n number found = refl

pub last_alone : (b : Bool) (n : ℕ) → later_or None b n ≡ or_last b n None
last_alone true n = refl
last_alone false n = refl

pub last_pushed : (span : Span) (m : ℕ) (txns : List TimedTxn) (t : TimedTxn) → last_before span m (txns ++ t ∷ []) ≡ or_last (ended_before t.span span) (m + length txns) (last_before span m txns)
last_pushed span m [] t = last_alone (ended_before t.span span) m ∙ ap (λ k. or_last (ended_before t.span span) k None) (sym (add-zero m))
last_pushed span m (x ∷ txns) t =
    let moved : m + 1 + length txns ≡ m + suc (length txns) = omega arith in
    ap (λ o. later_or o (ended_before x.span span) m) (last_pushed span (m + 1) txns t ∙ ap (λ k. or_last (ended_before t.span span) k (last_before span (m + 1) txns)) moved)
    ∙ later_or_last (ended_before t.span span) (ended_before x.span span) (m + suc (length txns)) m (last_before span (m + 1) txns)

-- the last before, once the next one was looked at
pub last_next : (span : Span) (txns : List TimedTxn) (k : ℕ) (t : TimedTxn) → k < length txns → t ≡ get_or txns k t → last_before span 0 (take (k + 1) txns) ≡ or_last (ended_before t.span span) k (last_before span 0 (take k txns))
last_next span txns k t within is =
    let long : 0 + length (take k txns) ≡ k = (let l = length-take-le k txns (omega (arith, within)) in omega (arith, l)) in
    ap (last_before span 0) (take_more txns k t within ∙ ap (λ x. take k txns ++ x ∷ []) (sym is))
    ∙ last_pushed span 0 (take k txns) t
    ∙ ap (λ n. or_last (ended_before t.span span) n (last_before span 0 (take k txns))) long

pub ends_pushed : (since : Option ℕ) (span : Span) (s : ℕ) (sessions : TimedHistory) (txns : List TimedTxn) → ends_since since span s (sessions ++ txns ∷ []) ≡ ends_since since span s sessions ++ end_read (s + length sessions) (last_since since span txns)
ends_pushed since span s [] txns = none_behind (end_read s (last_since since span txns)) ∙ ap (λ k. end_read k (last_since since span txns)) (sym (add-zero s))
  where
    none_behind : (xs : List (ℕ × Source)) → xs ++ [] ≡ xs
    none_behind [] = refl
    none_behind (x ∷ xs) = ap (λ ys. x ∷ ys) (none_behind xs)
ends_pushed since span s (one ∷ sessions) txns =
    let moved : s + 1 + length sessions ≡ s + suc (length sessions) = omega arith in
    ap (λ reads. end_read s (last_since since span one) ++ reads) (ends_pushed since span (s + 1) sessions txns ∙ ap (λ k. ends_since since span (s + 1) sessions ++ end_read k (last_since since span txns)) moved)
    ∙ sym (append_assoc (end_read s (last_since since span one)) (ends_since since span (s + 1) sessions) (end_read (s + suc (length sessions)) (last_since since span txns)))

-- the reads, once the next session was looked at
pub ends_next : (since : Option ℕ) (span : Span) (timed : TimedHistory) (k : ℕ) (txns : List TimedTxn) → k < length timed → txns ≡ get_or timed k txns → ends_since since span 0 (take (k + 1) timed) ≡ ends_since since span 0 (take k timed) ++ end_read k (last_since since span txns)
ends_next since span timed k txns within is =
    let long : 0 + length (take k timed) ≡ k = (let l = length-take-le k timed (omega (arith, within)) in omega (arith, l)) in
    ap (ends_since since span 0) (take_more timed k txns within ∙ ap (λ x. take k timed ++ x ∷ []) (sym is))
    ∙ ends_pushed since span 0 (take k timed) txns
    ∙ ap (λ n. ends_since since span 0 (take k timed) ++ end_read n (last_since since span txns)) long

txns_pushed : (timed : TimedHistory) (s m : ℕ) (txns : List TimedTxn) (t : TimedTxn) → strict_txns timed s m (txns ++ t ∷ []) ≡ strict_txns timed s m txns ++ strict_txn timed (record { session = s; number = m + length txns }) t ∷ []
txns_pushed timed s m [] t = ap (λ (k : ℕ). strict_txn timed (record { session = s; number = k }) t ∷ []) (sym (add-zero m))
txns_pushed timed s m (x ∷ txns) t =
    let moved : m + 1 + length txns ≡ m + suc (length txns) = omega arith in
    ap (λ rest. strict_txn timed (record { session = s; number = m }) x ∷ rest) (txns_pushed timed s (m + 1) txns t ∙ ap (λ (k : ℕ). strict_txns timed s (m + 1) txns ++ strict_txn timed (record { session = s; number = k }) t ∷ []) moved)

-- a session, once its next transaction was rewritten
pub session_next : (timed : TimedHistory) (s k : ℕ) (txns : List TimedTxn) (t : TimedTxn) → k < length txns → t ≡ get_or txns k t → strict_txns timed s 0 (take (k + 1) txns) ≡ strict_txns timed s 0 (take k txns) ++ strict_txn timed (record { session = s; number = k }) t ∷ []
session_next timed s k txns t within is =
    let long : 0 + length (take k txns) ≡ k = (let l = length-take-le k txns (omega (arith, within)) in omega (arith, l)) in
    ap (strict_txns timed s 0) (take_more txns k t within ∙ ap (λ x. take k txns ++ x ∷ []) (sym is))
    ∙ txns_pushed timed s 0 (take k txns) t
    ∙ ap (λ (n : ℕ). strict_txns timed s 0 (take k txns) ++ strict_txn timed (record { session = s; number = n }) t ∷ []) long

sessions_pushed : (timed : TimedHistory) (s : ℕ) (sessions : TimedHistory) (txns : List TimedTxn) → strict_sessions timed s (sessions ++ txns ∷ []) ≡ strict_sessions timed s sessions ++ strict_txns timed (s + length sessions) 0 txns ∷ []
sessions_pushed timed s [] txns = ap (λ k. strict_txns timed k 0 txns ∷ []) (sym (add-zero s))
sessions_pushed timed s (one ∷ sessions) txns =
    let moved : s + 1 + length sessions ≡ s + suc (length sessions) = omega arith in
    ap (λ rest. strict_txns timed s 0 one ∷ rest) (sessions_pushed timed (s + 1) sessions txns ∙ ap (λ k. strict_sessions timed (s + 1) sessions ++ strict_txns timed k 0 txns ∷ []) moved)

-- a history, once its next session was rewritten
pub history_next : (timed sessions : TimedHistory) (k : ℕ) (txns : List TimedTxn) → k < length sessions → txns ≡ get_or sessions k txns → strict_sessions timed 0 (take (k + 1) sessions) ≡ strict_sessions timed 0 (take k sessions) ++ strict_txns timed k 0 txns ∷ []
history_next timed sessions k txns within is =
    let long : 0 + length (take k sessions) ≡ k = (let l = length-take-le k sessions (omega (arith, within)) in omega (arith, l)) in
    ap (strict_sessions timed 0) (take_more sessions k txns within ∙ ap (λ x. take k sessions ++ x ∷ []) (sym is))
    ∙ sessions_pushed timed 0 (take k sessions) txns
    ∙ ap (λ n. strict_sessions timed 0 (take k sessions) ++ strict_txns timed n 0 txns ∷ []) long

-- ---- what the loops keep

-- the reads so far, and those of the next session
pub ends_grown : (since : Option ℕ) (span : Span) (timed : TimedHistory) (k : ℕ) (session txns : List TimedTxn) (last : Option ℕ) (before made after : List (ℕ × Source)) → k < length timed → session ≡ get_or timed k session → txns ≡ session → last ≡ last_since since span txns → made ≡ before ++ ends_since since span 0 (take k timed) → after ≡ made ++ end_read k last → after ≡ before ++ ends_since since span 0 (take (k + 1) timed)
ends_grown since span timed k session txns last before made after within is same found so_far pushed =
    pushed
    ∙ ap (λ reads. reads ++ end_read k last) so_far
    ∙ ap (λ o. (before ++ ends_since since span 0 (take k timed)) ++ end_read k o) (found ∙ ap (last_since since span) same)
    ∙ append_assoc before (ends_since since span 0 (take k timed)) (end_read k (last_since since span session))
    ∙ ap (λ reads. before ++ reads) (sym (ends_next since span timed k session within is))

-- a number that is found is one of its session
pub last_is_low : (since : Option ℕ) (span : Span) (timed : TimedHistory) (k : ℕ) (session txns : List TimedTxn) (last : Option ℕ) → All (λ txns. length txns ≤ 2 ^ 48) timed → k < length timed → session ≡ get_or timed k session → txns ≡ session → last ≡ last_since since span txns → IfSome last (λ number. number < 2 ^ 48)
last_is_low since span timed k session txns last short within is same found = if_some_from last (λ number. number < 2 ^ 48) (λ number there. by_place number (found_before span 0 txns number (since_is_last since span txns number (sym found ∙ there))))
  where
    long : length session ≤ 2 ^ 48
    long = subst (λ txns. length txns ≤ 2 ^ 48) (sym is) (short k session within)

    by_place : (number : ℕ) → (j : ℕ) × (t : TimedTxn) × (number ≡ 0 + j) × (slice_get txns j ≡ Some t) × (ended_before t.span span ≡ true) → number < 2 ^ 48
    by_place number (j, t, place, at, test) =
        let inside = slice_get_within txns j t at in
        let size : length txns ≡ length session = ap length same in
        omega (arith, long, place, inside, size)

pub session_grown : (timed : TimedHistory) (s k : ℕ) (txns : List TimedTxn) (t : TimedTxn) (rewritten : Txn) (made after : List Txn) → k < length txns → t ≡ get_or txns k t → rewritten ≡ strict_txn timed (record { session = s; number = k }) t → made ≡ strict_txns timed s 0 (take k txns) → after ≡ made ++ rewritten ∷ [] → after ≡ strict_txns timed s 0 (take (k + 1) txns)
session_grown timed s k txns t rewritten made after within is made_so so_far pushed =
    pushed
    ∙ ap (λ all. all ++ rewritten ∷ []) so_far
    ∙ ap (λ one. strict_txns timed s 0 (take k txns) ++ one ∷ []) made_so
    ∙ sym (session_next timed s k txns t within is)

pub history_grown : (timed : TimedHistory) (k : ℕ) (session txns : List TimedTxn) (rewritten : List Txn) (made after : List (List Txn)) → k < length timed → session ≡ get_or timed k session → txns ≡ session → rewritten ≡ strict_txns timed k 0 txns → made ≡ strict_sessions timed 0 (take k timed) → after ≡ made ++ rewritten ∷ [] → after ≡ strict_sessions timed 0 (take (k + 1) timed)
history_grown timed k session txns rewritten made after within is same made_so so_far pushed =
    pushed
    ∙ ap (λ all. all ++ rewritten ∷ []) so_far
    ∙ ap (λ one. strict_sessions timed 0 (take k timed) ++ one ∷ []) (made_so ∙ ap (strict_txns timed k 0) same)
    ∙ sym (history_next timed timed k session within is)
