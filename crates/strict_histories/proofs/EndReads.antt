-- The reads by which a transaction comes after those that ended before it began.
use Rattle.std.proofs.Common.{◌≡◌, ℕ, ◌+◌, ◌≤◌, Bool, true, false, not, List, [], ◌∷◌, ◌++◌, Some, None, Option, refl, sym, ap, subst, ◌∙◌, arith, suc, zero, add-zero}
use Rattle.std.specs.Prelude.{All}
use Rattle.std.specs.List.{slice_get}
use Rattle.std.proofs.lemmas.List.Elements.{All-nil, All-cons, All-head, All-tail, All-append}
use Rattle.txn.specs.declared.transactions.Source.{Source}
use Rattle.txn.specs.declared.transactions.Source.TheVariants.{By}
use Rattle.txn.specs.History.{session_of}
use Rattle.strict_histories.specs.declared.timed.Span.{Span}
use Rattle.strict_histories.specs.declared.timed.TimedTxn.{TimedTxn}
use Rattle.strict_histories.specs.Rewriting.{end_key, end_read, ended_before, ends_since, given_if, is_earlier, last_before, last_since, later_or, span_at}
use Rattle.strict_histories.specs.Strict.{TimedHistory}

-- ---- the last that ended before

pub found_before : (span : Span) (m : ℕ) (txns : List TimedTxn) (n : ℕ) → last_before span m txns ≡ Some n → (k : ℕ) × (t : TimedTxn) × (n ≡ m + k) × (slice_get txns k ≡ Some t) × (ended_before t.span span ≡ true)
found_before span m [] n e = absurd cc
found_before span m (t ∷ txns) n e = by_rest (last_before span (m + 1) txns) refl (ended_before t.span span) refl (found_before span (m + 1) txns n) e
  where
    more : (k : ℕ) × (u : TimedTxn) × (n ≡ m + 1 + k) × (slice_get txns k ≡ Some u) × (ended_before u.span span ≡ true) → (k : ℕ) × (u : TimedTxn) × (n ≡ m + k) × (slice_get (t ∷ txns) k ≡ Some u) × (ended_before u.span span ≡ true)
    more (k, u, place, at, test) = (suc k, u, omega (arith, place), at, test)

    by_rest : (rest : Option ℕ) → last_before span (m + 1) txns ≡ rest → (b : Bool) → ended_before t.span span ≡ b → (last_before span (m + 1) txns ≡ Some n → (k : ℕ) × (u : TimedTxn) × (n ≡ m + 1 + k) × (slice_get txns k ≡ Some u) × (ended_before u.span span ≡ true)) → later_or rest b m ≡ Some n → (k : ℕ) × (u : TimedTxn) × (n ≡ m + k) × (slice_get (t ∷ txns) k ≡ Some u) × (ended_before u.span span ≡ true)
    by_rest (Some later) rest b test found is = more (found (rest ∙ is))
    by_rest None rest true test found is = let same : m ≡ n = cc in (0, t, omega (arith, same), refl, test)
    by_rest None rest false test found is = absurd cc

-- whichever of them ended before, there is a last one, and it is no earlier
pub covered_before : (span : Span) (m : ℕ) (txns : List TimedTxn) (k : ℕ) (t : TimedTxn) → slice_get txns k ≡ Some t → ended_before t.span span ≡ true → (n : ℕ) × (last_before span m txns ≡ Some n) × (m + k ≤ n)
covered_before span m [] k t at test = absurd cc
covered_before span m (x ∷ txns) zero t at test = by_rest (last_before span (m + 1) txns) refl
  where
    same : x ≡ t
    same = cc

    passes : ended_before x.span span ≡ true
    passes = ap (λ (y : TimedTxn). ended_before y.span span) same ∙ test

    behind : (later : ℕ) → (k : ℕ) × (u : TimedTxn) × (later ≡ m + 1 + k) × (slice_get txns k ≡ Some u) × (ended_before u.span span ≡ true) → m + 0 ≤ later
    behind later (k, u, place, at, test) = omega (arith, place)

    by_rest : (rest : Option ℕ) → last_before span (m + 1) txns ≡ rest → (n : ℕ) × (later_or (last_before span (m + 1) txns) (ended_before x.span span) m ≡ Some n) × (m + 0 ≤ n)
    by_rest (Some later) rest = (later, ap (λ o. later_or o (ended_before x.span span) m) rest, behind later (found_before span (m + 1) txns later rest))
    by_rest None rest = (m, ap (λ o. later_or o (ended_before x.span span) m) rest ∙ ap (λ b. later_or None b m) passes, omega arith)
covered_before span m (x ∷ txns) (suc k) t at test = more (covered_before span (m + 1) txns k t at test)
  where
    more : (n : ℕ) × (last_before span (m + 1) txns ≡ Some n) × (m + 1 + k ≤ n) → (n : ℕ) × (later_or (last_before span (m + 1) txns) (ended_before x.span span) m ≡ Some n) × (m + suc k ≤ n)
    more (n, e, low) = (n, ap (λ o. later_or o (ended_before x.span span) m) e, omega (arith, low))

-- ---- all of them

pub all_left : {X : Type 0} (P : X → Type 0) (xs ys : List X) → All P (xs ++ ys) → All P xs
all_left P [] ys all = All-nil P
all_left P (x ∷ xs) ys all = All-cons P x xs (All-head P x (xs ++ ys) all) (all_left P xs ys (All-tail P x (xs ++ ys) all))

pub all_right : {X : Type 0} (P : X → Type 0) (xs ys : List X) → All P (xs ++ ys) → All P ys
all_right P [] ys all = all
all_right P (x ∷ xs) ys all = all_right P xs ys (All-tail P x (xs ++ ys) all)

-- the read of the key of a session's transaction
abbrev pub read_of : ℕ → ℕ → ℕ × Source
read_of s number = (end_key (record { session = s; number = number }), By (record { session = s; number = number }))

-- what passes is what was given
given_is : (b : Bool) (given : Option ℕ) (n : ℕ) → given_if b given ≡ Some n → given ≡ Some n
given_is true given n e = e
given_is false given n e = absurd cc

-- the one that is read is the last that ended before
pub since_is_last : (since : Option ℕ) (span : Span) (txns : List TimedTxn) (n : ℕ) → last_since since span txns ≡ Some n → last_before span 0 txns ≡ Some n
since_is_last since span txns n e = given_is (not (is_earlier (span_at txns (last_before span 0 txns)).ended since)) (last_before span 0 txns) n e

-- and it is read, unless it ended before that time
pub last_is_since : (since : Option ℕ) (span : Span) (txns : List TimedTxn) (n : ℕ) → last_before span 0 txns ≡ Some n → is_earlier (span_at txns (Some n)).ended since ≡ false → last_since since span txns ≡ Some n
last_is_since since span txns n e late =
    ap (λ o. given_if (not (is_earlier (span_at txns o).ended since)) o) e
    ∙ ap (λ b. given_if (not b) (Some n)) late

-- what holds of the last of each session holds of all these reads
pub ends_have : (P : ℕ × Source → Type 0) (since : Option ℕ) (span : Span) (s : ℕ) (sessions : TimedHistory) → ((k n : ℕ) → last_before span 0 (session_of sessions k) ≡ Some n → P (read_of (s + k) n)) → All P (ends_since since span s sessions)
ends_have P since span s [] h = All-nil P
ends_have P since span s (txns ∷ sessions) h = All-append P (end_read s (last_since since span txns)) (ends_since since span (s + 1) sessions) (by_last (last_since since span txns) refl) (ends_have P since span (s + 1) sessions (λ k n e. let moved : s + suc k ≡ s + 1 + k = omega arith in subst (λ j. P (read_of j n)) moved (h (suc k) n e)))
  where
    by_last : (last : Option ℕ) → last_since since span txns ≡ last → All P (end_read s last)
    by_last None e = All-nil P
    by_last (Some n) e = All-cons P (read_of s n) [] (subst (λ j. P (read_of j n)) (add-zero s) (h 0 n (since_is_last since span txns n e))) (All-nil P)

-- and the other way round, of one that is read
pub end_has : (P : ℕ × Source → Type 0) (since : Option ℕ) (span : Span) (s : ℕ) (sessions : TimedHistory) → All P (ends_since since span s sessions) → (k n : ℕ) → last_since since span (session_of sessions k) ≡ Some n → P (read_of (s + k) n)
end_has P since span s [] all k n e = absurd (nothing_read since span n e)
  where
    nothing_read : (since : Option ℕ) (span : Span) (n : ℕ) → last_since since span [] ≡ Some n → ⊥
    nothing_read since span n e = let none : None ≡ Some n = since_is_last since span [] n e in absurd cc
end_has P since span s (txns ∷ sessions) all zero n e = subst (λ j. P (read_of j n)) (sym (add-zero s)) (All-head P (read_of s n) [] (subst (λ o. All P (end_read s o)) e (all_left P (end_read s (last_since since span txns)) (ends_since since span (s + 1) sessions) all)))
end_has P since span s (txns ∷ sessions) all (suc k) n e = let moved : s + 1 + k ≡ s + suc k = omega arith in subst (λ j. P (read_of j n)) moved (end_has P since span (s + 1) sessions (all_right P (end_read s (last_since since span txns)) (ends_since since span (s + 1) sessions) all) k n e)
