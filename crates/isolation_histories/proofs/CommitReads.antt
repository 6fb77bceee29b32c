-- Of two transactions that write one key, where an order explains the split history or keeps snapshot isolation.
use Rattle.std.proofs.Common.{◌≡◌, ◌≢◌, ℕ, ◌<◌, ◌≤◌, ◌^◌, ◌⊎◌, Bool, true, false, List, length, Some, None, Option, refl, sym, ap, ◌∙◌, inl, inr, arith}
use Rattle.std.specs.Prelude.{map}
use Rattle.std.specs.List.{slice_get, slice_index_or}
use Rattle.std.proofs.lemmas.Bool.{false≢true, cases_lt}
use Rattle.std.proofs.lemmas.List.Elements.{All-map}
use Rattle.std.proofs.lemmas.Option.{slice_get-get_or}
use Rattle.list_lemmas.proofs.Places.{IsAt}
use Rattle.list_lemmas.specs.Precedes.{Precedes}
use Rattle.txn.specs.declared.transactions.TxnId.{TxnId}
use Rattle.txn.specs.declared.transactions.Txn.{Txn}
use Rattle.txn.specs.History.{History, txn_at, writes_key, Writes, NoneWrites}
use Rattle.isolation_histories.specs.declared.events.Event.{Event}
use Rattle.isolation_histories.specs.declared.events.Event.TheVariants.{Begin, Commit}
use Rattle.isolation_histories.specs.Halves.{begin_half, half_of}
use Rattle.isolation_histories.specs.Snapshot.{commits_key, NoneCommits}
use Rattle.isolation_histories.specs.Split.{split_history}
use Rattle.isolation_histories.proofs.EventPlaces.{AreEvents, one_place, begin_then_commit}
use Rattle.isolation_histories.proofs.Lookups.{begin_writes, begin_writes_none, commit_writes}

-- two transactions that write one key are apart
abbrev pub AreApart : History → List Event → Type 0
AreApart history events = (a b : TxnId) (key : ℕ) → a ≢ b → Writes (txn_at history) a key → Writes (txn_at history) b key → Precedes events (Commit a) (Begin b) ⊎ Precedes events (Commit b) (Begin a)

-- each key that is written is below 2^63
abbrev pub WritesLow : History → Type 0
WritesLow history = (id : TxnId) (key : ℕ) → Writes (txn_at history) id key → key < 2 ^ 63

-- who writes a key begins, and commits after that
pub writer_events : (history : History) (events : List Event) (id : TxnId) (key : ℕ) → AreEvents history events → Writes (txn_at history) id key → Precedes events (Begin id) (Commit id)
writer_events history events id key are writes = by_found (txn_at history id) refl
  where
    by_found : (found : Option Txn) → txn_at history id ≡ found → Precedes events (Begin id) (Commit id)
    by_found None e = absurd (false≢true (ap (λ o. writes_key o key) (sym e) ∙ writes))
    by_found (Some txn) e = begin_then_commit history events id txn are e

-- no other writer of a key begins or commits while a transaction that writes it is open
pub closed_between : (history : History) (events : List Event) (id x : TxnId) (key i j : ℕ) → AreEvents history events → AreApart history events → Writes (txn_at history) id key → Writes (txn_at history) x key → x ≢ id → slice_get events i ≡ Some (Begin id) → slice_get events j ≡ Some (Commit id) → (k m : ℕ) → slice_get events k ≡ Some (Begin x) → slice_get events m ≡ Some (Commit x) → (m < i) ⊎ (j < k)
closed_between history events id x key i j are apart writes other_writes other begins commits k m x_begins x_commits = by_side (apart x id key other other_writes writes)
  where
    by_side : Precedes events (Commit x) (Begin id) ⊎ Precedes events (Commit id) (Begin x) → (m < i) ⊎ (j < k)
    by_side (inl (p, q, below, here, there)) =
        let a = one_place history events (Commit x) p m are here x_commits in
        let b = one_place history events (Begin id) q i are there begins in
        inl (omega (arith, a, b))
    by_side (inr (p, q, below, here, there)) =
        let a = one_place history events (Commit id) p j are here commits in
        let b = one_place history events (Begin x) q k are there x_begins in
        inr (omega (arith, a, b))

-- at a place of a list, whatever stands for a place past the end
pub at_of : {X : Type 0} (xs : List X) (k : ℕ) (d : X) → k < length xs → slice_get xs k ≡ Some (slice_index_or xs k d)
at_of xs k d within = slice_get-get_or xs k d within

-- what none of these commits, none of what stands for them writes, unless a fence among them begins
pub none_writes : (history : History) (key : ℕ) (events : List Event) → key < 2 ^ 63 → NoneCommits history key events → ((x : TxnId) → IsAt events (Begin x) → Writes (txn_at history) x 0 → key ≡ 0 → ⊥) → NoneWrites (txn_at (split_history history)) key (map half_of events)
none_writes history key events low none no_fence = All-map (λ id. writes_key (txn_at (split_history history) id) key ≡ false) half_of events (λ k d within. by_event (slice_index_or events k d) (none k d within) (k, at_of events k d within))
  where
    by_zero : (x : TxnId) → IsAt events (Begin x) → (0 < key) ⊎ (key ≤ 0) → writes_key (txn_at (split_history history) (begin_half x)) key ≡ false
    by_zero x at (inl some) = begin_writes_none history x key some low
    by_zero x at (inr low_key) =
        let is : key ≡ 0 = omega arith in
        by_written (writes_key (txn_at history x) 0) refl is
      where
        by_written : (t : Bool) → writes_key (txn_at history x) 0 ≡ t → key ≡ 0 → writes_key (txn_at (split_history history) (begin_half x)) key ≡ false
        by_written true e is = absurd (no_fence x at e is)
        by_written false e is = ap (writes_key (txn_at (split_history history) (begin_half x))) is ∙ begin_writes history x 0 ∙ e

    by_event : (event : Event) → commits_key history key event ≡ false → IsAt events event → writes_key (txn_at (split_history history) (half_of event)) key ≡ false
    by_event (Begin x) _ at = by_zero x at (cases_lt 0 key)
    by_event (Commit x) e at = commit_writes history x key ∙ e
