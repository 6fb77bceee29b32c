-- What a well-formed transaction with possible times is rewritten into is well formed.
use Rattle.std.proofs.Common.{◌≡◌, ◌≢◌, ℕ, zero, suc, ◌+◌, ◌*◌, ◌<◌, ◌≤◌, ◌^◌, Bool, true, false, not, ◌||◌, ◌&&◌, List, [], ◌∷◌, ◌++◌, length, Some, None, Option, refl, sym, ap, subst, ◌∙◌, inl, inr, arith, nat_lt, nat_eq}
use Rattle.std.specs.Prelude.{All}
use Rattle.std.specs.List.{slice_get, slice_index_or}
use Rattle.std.proofs.lemmas.Bool.{false≢true, lt-ltb}
use Rattle.std.proofs.lemmas.List.Elements.{All-append, All-nil, All-cons, All-head, All-tail, All-weaker}
use Rattle.txn.specs.declared.transactions.TxnId.{TxnId}
use Rattle.txn.specs.declared.transactions.Source.{Source}
use Rattle.txn.specs.Transactions.{IsSourceFor, KeepsEpoch, Rises, read_below, source_below}
use Rattle.txn.specs.History.{session_of}
use Rattle.strict_histories.specs.declared.timed.Span.{Span}
use Rattle.strict_histories.specs.declared.timed.TimedTxn.{TimedTxn}
use Rattle.strict_histories.specs.Laws.{RewritingIsWellFormed}
use Rattle.strict_histories.specs.Rewriting.{end_key, end_read, end_reads, end_writes, ended_before, ends_since, given_if, is_earlier, last_before, last_since, later_or, latest_begin, span_at, strict_txn}
use Rattle.strict_histories.specs.Strict.{TimedHistory, timed_at}
use Rattle.strict_histories.proofs.EndReads.{ends_have, read_of, since_is_last}
use Rattle.strict_histories.proofs.Lookups.{low_keys, low_number}
use Rattle.strict_histories.proofs.Orders.{last_at}

-- ---- lists that rise

rises_more : {X : Type 0} (below : X → X → Bool) (x : X) (ys : List X) → ((d : X) → 0 < length ys → below x (slice_index_or ys 0 d) ≡ true) → Rises below ys → Rises below (x ∷ ys)
rises_more below x ys first rest zero d within = first d (omega (arith, within))
rises_more below x ys first rest (suc k) d within =
    let moved : suc k + 1 ≡ suc (k + 1) = omega arith in
    subst (λ j. below (slice_index_or ys k d) (slice_index_or (x ∷ ys) j d) ≡ true) (sym moved) (rest k d (omega (arith, within)))

rises_rest : {X : Type 0} (below : X → X → Bool) (x : X) (ys : List X) → Rises below (x ∷ ys) → Rises below ys
rises_rest below x ys rises k d within =
    let here : k + 1 ≡ suc k = omega arith in
    let next : k + 1 + 1 ≡ suc (k + 1) = omega arith in
    subst (λ j. below (slice_index_or ys k d) (slice_index_or (x ∷ ys) j d) ≡ true) next (subst (λ j. below (slice_index_or (x ∷ ys) j d) (slice_index_or (x ∷ ys) (k + 1 + 1) d) ≡ true) here (rises (k + 1) d (omega (arith, within))))

-- each of the one list is below each of the other
abbrev pub AreBelow : {X : Type 0} → (X → X → Bool) → List X → List X → Type 0
AreBelow below xs ys = All (λ x. All (λ y. below x y ≡ true) ys) xs

rise_both : {X : Type 0} (below : X → X → Bool) (xs ys : List X) → Rises below xs → Rises below ys → AreBelow below xs ys → Rises below (xs ++ ys)
rise_both below [] ys one other apart = other
rise_both below (x ∷ []) ys one other apart = rises_more below x ys (λ d within. All-head (λ x. All (λ y. below x y ≡ true) ys) x [] apart 0 d within) other
rise_both below (x ∷ z ∷ xs) ys one other apart = rises_more below x ((z ∷ xs) ++ ys) (λ d within. one 0 d (omega arith)) (rise_both below (z ∷ xs) ys (rises_rest below x (z ∷ xs) one) other (All-tail (λ x. All (λ y. below x y ≡ true) ys) x (z ∷ xs) apart))

-- ---- keys of ends

from_key : (k n s : ℕ) → 2 ^ 62 + s * 2 ^ 48 ≤ end_key (record { session = s + k; number = n })
from_key k n s = let e : end_key (record { session = s + k; number = n }) ≡ 2 ^ 62 + (s + k) * 2 ^ 48 + n = refl in omega (arith, e)

keys_from : (since : Option ℕ) (span : Span) (s : ℕ) (sessions : TimedHistory) → All (λ read. 2 ^ 62 + s * 2 ^ 48 ≤ read.0) (ends_since since span s sessions)
keys_from since span s sessions = ends_have (λ read. 2 ^ 62 + s * 2 ^ 48 ≤ read.0) since span s sessions (λ k n e. from_key k n s)

read_rises : (a b : ℕ × Source) → a.0 < b.0 → read_below a b ≡ true
read_rises a b less = ap (λ t. t || (nat_eq a.0 b.0 && source_below a.1 b.1)) (lt-ltb a.0 b.0 less)

-- numbers that are found are low
abbrev pub FindsLow : Span → TimedHistory → Type 0
FindsLow span sessions = (k n : ℕ) → last_before span 0 (session_of sessions k) ≡ Some n → n < 2 ^ 48

ends_rise : (since : Option ℕ) (span : Span) (s : ℕ) (sessions : TimedHistory) → FindsLow span sessions → Rises read_below (ends_since since span s sessions)
ends_rise since span s [] low = λ k d within. absurd (omega (arith, within))
ends_rise since span s (txns ∷ sessions) low = by_last (last_since since span txns) refl (ends_rise since span (s + 1) sessions (λ k. low (suc k)))
  where
    by_last : (last : Option ℕ) → last_since since span txns ≡ last → Rises read_below (ends_since since span (s + 1) sessions) → Rises read_below (end_read s last ++ ends_since since span (s + 1) sessions)
    by_last None e rest = rest
    by_last (Some n) e rest = rises_more read_below (read_of s n) (ends_since since span (s + 1) sessions) (λ d within. read_rises (read_of s n) (slice_index_or (ends_since since span (s + 1) sessions) 0 d) (first d within)) rest
      where
        first : (d : ℕ × Source) → 0 < length (ends_since since span (s + 1) sessions) → end_key (record { session = s; number = n }) < (slice_index_or (ends_since since span (s + 1) sessions) 0 d).0
        first d within =
            let own : end_key (record { session = s; number = n }) ≡ 2 ^ 62 + s * 2 ^ 48 + n = refl in
            let number = low 0 n (since_is_last since span txns n e) in
            let next = keys_from since span (s + 1) sessions 0 d within in
            omega (arith, own, number, next)

all_found : (P : ℕ × Source → Type 0) (timed : TimedHistory) (span : Span) → ((s n : ℕ) (u : TimedTxn) → timed_at timed (record { session = s; number = n }) ≡ Some u → ended_before u.span span ≡ true → P (read_of s n)) → All P (end_reads span timed)
all_found P timed span each = ends_have P (latest_begin span timed) span 0 timed (λ s n e. by_source s n (last_at timed span s n e))
  where
    by_source : (s n : ℕ) → (u : TimedTxn) × (timed_at timed (record { session = s; number = n }) ≡ Some u) × (ended_before u.span span ≡ true) → P (read_of (0 + s) n)
    by_source s n (u, at, test) = let zero_first : s ≡ 0 + s = omega arith in subst (λ j. P (read_of j n)) zero_first (each s n u at test)

session_within : (timed : TimedHistory) (s k : ℕ) (u : TimedTxn) → slice_get (session_of timed s) k ≡ Some u → s < length timed
session_within [] s k u at = absurd cc
session_within (txns ∷ timed) zero k u at = omega arith
session_within (txns ∷ timed) (suc s) k u at = let rest = session_within timed s k u at in omega (arith, rest)

-- who began at a time that isn't known reads no end
none_found : (span : Span) → span.began ≡ None → (m : ℕ) (txns : List TimedTxn) → last_before span m txns ≡ None
none_found span none m [] = refl
none_found span none m (t ∷ txns) = ap (λ o. later_or o (ended_before t.span span) m) (none_found span none (m + 1) txns) ∙ ap (λ b. later_or None b m) (ap (is_earlier t.span.ended) none ∙ by_end t.span.ended)
  where
    by_end : (ended : Option ℕ) → is_earlier ended None ≡ false
    by_end None = refl
    by_end (Some ended) = refl

nothing_since : (since : Option ℕ) (span : Span) → span.began ≡ None → (txns : List TimedTxn) → last_since since span txns ≡ None
nothing_since since span none txns = ap (λ o. given_if (not (is_earlier (span_at txns o).ended since)) o) (none_found span none 0 txns) ∙ by_test (not (is_earlier (span_at txns None).ended since))
  where
    by_test : (b : Bool) → given_if b None ≡ None
    by_test true = refl
    by_test false = refl

no_ends : (since : Option ℕ) (span : Span) → span.began ≡ None → (s : ℕ) (sessions : TimedHistory) → ends_since since span s sessions ≡ []
no_ends since span none s [] = refl
no_ends since span none s (txns ∷ sessions) = ap (λ o. end_read s o ++ ends_since since span (s + 1) sessions) (nothing_since since span none txns) ∙ no_ends since span none (s + 1) sessions

append_none : {X : Type 0} (xs : List X) → xs ++ [] ≡ xs
append_none [] = refl
append_none (x ∷ xs) = ap (λ ys. x ∷ ys) (append_none xs)

ends_of : (id : TxnId) (ended : Option ℕ) → All (λ key. 2 ^ 62 ≤ key) (end_writes id ended)
ends_of id None = All-nil (λ key. 2 ^ 62 ≤ key)
ends_of id (Some ended) = All-cons (λ key. 2 ^ 62 ≤ key) (end_key id) [] (let e : end_key id ≡ 2 ^ 62 + id.session * 2 ^ 48 + id.number = refl in omega (arith, e)) (All-nil (λ key. 2 ^ 62 ≤ key))

one_rises : (id : TxnId) (ended : Option ℕ) → Rises nat_lt (end_writes id ended)
one_rises id None k d within = absurd (omega (arith, within))
one_rises id (Some ended) k d within = absurd (omega (arith, within))

pub well_formed : RewritingIsWellFormed
well_formed sessions timed id t room few at formed timely fence = record {
  lists = record {
    reads_rise = rise_both read_below t.txn.reads (end_reads t.span timed) formed.lists.reads_rise (ends_rise (latest_begin t.span timed) t.span 0 timed low) reads_apart;
    writes_rise = rise_both nat_lt t.txn.writes (end_writes id t.span.ended) formed.lists.writes_rise (one_rises id t.span.ended) writes_apart;
    sources = All-append (λ read. IsSourceFor sessions id read.1) t.txn.reads (end_reads t.span timed) formed.lists.sources (all_found (λ read. IsSourceFor sessions id read.1) timed t.span source);
  };
  epoch = by_epoch formed.epoch;
}
  where
    low : FindsLow t.span timed
    low s n e = by_found (last_at timed t.span s n e)
      where
        by_found : (u : TimedTxn) × (timed_at timed (record { session = s; number = n }) ≡ Some u) × (ended_before u.span t.span ≡ true) → n < 2 ^ 48
        by_found (u, there, test) = low_number timed (record { session = s; number = n }) u room there

    high : All (λ read. 2 ^ 62 ≤ read.0) (end_reads t.span timed)
    high = All-weaker (λ read. 2 ^ 62 + 0 * 2 ^ 48 ≤ read.0) (λ read. 2 ^ 62 ≤ read.0) (λ read h. omega (arith, h)) (end_reads t.span timed) (keys_from (latest_begin t.span timed) t.span 0 timed)

    reads_apart : AreBelow read_below t.txn.reads (end_reads t.span timed)
    reads_apart = λ k d within. λ j e inside.
        let below = (low_keys timed id t room at).reads k d within in
        let above = high j e inside in
        read_rises (slice_index_or t.txn.reads k d) (slice_index_or (end_reads t.span timed) j e) (omega (arith, below, above))

    writes_apart : AreBelow nat_lt t.txn.writes (end_writes id t.span.ended)
    writes_apart = λ k d within. λ j e inside.
        let below = (low_keys timed id t room at).writes k d within in
        let above = ends_of id t.span.ended j e inside in
        lt-ltb (slice_index_or t.txn.writes k d) (slice_index_or (end_writes id t.span.ended) j e) (omega (arith, below, above))

    source : (s n : ℕ) (u : TimedTxn) → timed_at timed (record { session = s; number = n }) ≡ Some u → ended_before u.span t.span ≡ true → IsSourceFor sessions id (read_of s n).1
    source s n u there test = (
      (λ same. (let one : Some u ≡ Some t = sym there ∙ ap (timed_at timed) same ∙ at in let is : u ≡ t = cc in false≢true (sym timely ∙ ap (λ (v : TimedTxn). ended_before v.span t.span) (sym is) ∙ test))),
      (let within = session_within timed s n u there in omega (arith, within, few)),
      low_number timed (record { session = s; number = n }) u room there,
    )

    by_epoch : KeepsEpoch t.txn → KeepsEpoch (strict_txn timed id t)
    by_epoch (inl is) =
        let times = fence is in
        inl (is.0, ap (λ reads. t.txn.reads ++ reads) (no_ends (latest_begin t.span timed) t.span times.0 0 timed) ∙ append_none t.txn.reads ∙ is.1, ap (λ o. t.txn.writes ++ end_writes id o) times.1 ∙ append_none t.txn.writes ∙ is.2)
    by_epoch (inr spares) = inr (record {
      reads = All-append (λ read. read.0 ≢ 0) t.txn.reads (end_reads t.span timed) spares.reads (All-weaker (λ read. 2 ^ 62 ≤ read.0) (λ read. read.0 ≢ 0) (λ read above is. omega (arith, above, is)) (end_reads t.span timed) high);
      writes = All-append (λ key. key ≢ 0) t.txn.writes (end_writes id t.span.ended) spares.writes (All-weaker (λ key. 2 ^ 62 ≤ key) (λ key. key ≢ 0) (λ key above is. omega (arith, above, is)) (end_writes id t.span.ended) (ends_of id t.span.ended));
    })
