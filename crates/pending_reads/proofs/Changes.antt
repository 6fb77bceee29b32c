-- What becomes of the index where one awaited transaction's reads change.
use Rattle.std.proofs.Common.{◌≡◌, ◌≢◌, ℕ, Bool, true, false, cond, refl, sym, ap, subst, ◌∙◌, Option, Some, None, unwrap_or, List, [], ◌∷◌, ◌++◌, length, arith}
use Rattle.std.specs.Prelude.{Contains, All, Any, IsTrue, ◌↔◌, not}
use Rattle.std.proofs.lemmas.Bool.{false≢true}
use Rattle.std.specs.Map.{lookup}
use Rattle.std.specs.BTreeMap.{BTreeMap, UpdatesBy, get_by}
use Rattle.std.proofs.lemmas.List.{get_or_default}
use Rattle.std.proofs.lemmas.List.Quantifiers.{all_pairs_push}
use Rattle.std.proofs.lemmas.Map.Views.{Contains-from_lookup}
use Rattle.std.proofs.lemmas.Option.{none-some}
use Rattle.list_lemmas.proofs.Ends.{push_not_nil}
use Rattle.txn.specs.declared.transactions.TxnId.{TxnId}
use Rattle.txn.specs.Transactions.{same_id}
use Rattle.txn.proofs.Ids.{same_id_is, same_id_itself, id_cmp}
use Rattle.pending_reads.specs.Waiting.{Index, waiting_for, HasWaiting, HasWaitingIn, HasReader, ChangesOnly, AreDistinct, IsKept}
use Rattle.pending_reads.proofs.Ids.{tests-same_id, same_id-other}

abbrev pub Reads : Type 0
Reads = List (TxnId × ℕ)

-- the index finds this for the writer, and for other ids what it found before
pub record Finds (old new : Index) (writer : TxnId) (found : Option Reads) : Type 0 where
  pub here : lookup (same_id writer) new ≡ found
  pub others : (other : TxnId) → same_id writer other ≡ false → lookup (same_id other) new ≡ lookup (same_id other) old

-- what the map says of a change, said of the index
pub finds : (old new : BTreeMap TxnId Reads) (writer : TxnId) (found : Option Reads) → UpdatesBy id_cmp (id_cmp writer) old new found → Finds old.entries new.entries writer found
finds old new writer found updates =
    let P : (TxnId → TxnId → Bool) → Type 0 = λ at. (lookup (at writer) new.entries ≡ found) × ((q : TxnId) → at writer q ≡ false → lookup (at q) new.entries ≡ lookup (at q) old.entries) in
    let all : P same_id = subst P tests-same_id (updates.1, updates.2) in
    record { here = all.0; others = all.1 }

-- what the map finds, the index finds
pub found_at : (m : BTreeMap TxnId Reads) (writer : TxnId) (found : Option Reads) → found ≡ get_by (id_cmp writer) m → found ≡ lookup (same_id writer) m.entries
found_at m writer found is = is ∙ ap (λ at. lookup (at writer) m.entries) tests-same_id

-- the reads that wait are those that the map finds
pub waiting_found : (m : BTreeMap TxnId Reads) (writer : TxnId) (found : Option Reads) → found ≡ get_by (id_cmp writer) m → waiting_for m.entries writer ≡ unwrap_or found []
waiting_found m writer found is = sym (ap (λ o. unwrap_or o []) (found_at m writer found is))

pub changes_only : {old new : Index} {writer : TxnId} {found : Option Reads} → Finds old new writer found → ChangesOnly old new writer (unwrap_or found [])
changes_only {writer = writer} f = record {
  changed = ap (λ o. unwrap_or o []) f.here;
  others = λ other ne. ap (λ o. unwrap_or o []) (f.others other (same_id-other writer other ne));
}

-- reads that may wait for one transaction
abbrev pub IsGood : Reads → Type 0
IsGood reads = (reads ≢ []) × AreDistinct reads

kept_after : {old new : Index} {writer : TxnId} {found : Option Reads} → Finds old new writer found → IsKept old → ((reads : Reads) → found ≡ Some reads → IsGood reads) → IsKept new
kept_after {new = new} {writer = writer} f kept good = λ q reads at.
    elim (same_id writer q) as (λ t. same_id writer q ≡ t → IsGood reads) [
      | true ↦ λ e. let is : writer ≡ q = same_id_is writer q e in good reads (sym f.here ∙ ap (λ w. lookup (same_id w) new) is ∙ at)
      | false ↦ λ e. kept q reads (sym (f.others q e) ∙ at)
    ] refl

none_distinct : AreDistinct []
none_distinct = λ i j d lt within _. absurd (omega arith)

-- the reads that wait for a transaction stand once each
pub waiting_distinct : (index : Index) (writer : TxnId) → IsKept index → AreDistinct (waiting_for index writer)
waiting_distinct index writer kept = by_found (lookup (same_id writer) index) refl
  where
    by_found : (found : Option Reads) → lookup (same_id writer) index ≡ found → AreDistinct (unwrap_or found [])
    by_found None at = none_distinct
    by_found (Some reads) at = (kept writer reads at).1

-- a read that isn't there goes to the end
good_push : (reads : Reads) (read : TxnId × ℕ) → AreDistinct reads → (Contains reads read → ⊥) → IsGood (reads ++ read ∷ [])
good_push reads read distinct new =
    (push_not_nil reads read, all_pairs_push (λ a b. a ≢ b) reads read distinct (λ k d within same. new (k, within, get_or_default reads k read d within ∙ same)))

-- one more read waits for the writer
abbrev pub Adds : Index → Index → TxnId → TxnId × ℕ → Type 0
Adds old new writer read = Finds old new writer (Some (waiting_for old writer ++ read ∷ []))

pub adds : (old new : BTreeMap TxnId Reads) (writer : TxnId) (read : TxnId × ℕ) (reads : Reads) → UpdatesBy id_cmp (id_cmp writer) old new (Some reads) → reads ≡ waiting_for old.entries writer ++ read ∷ [] → Adds old.entries new.entries writer read
adds old new writer read reads updates is = subst (Finds old.entries new.entries writer) (ap Some is) (finds old new writer (Some reads) updates)

pub kept_add : {old new : Index} {writer : TxnId} {read : TxnId × ℕ} → Adds old new writer read → IsKept old → (Contains (waiting_for old writer) read → ⊥) → IsKept new
kept_add {old = old} {writer = writer} {read = read} added kept apart =
    kept_after added kept (λ reads e. subst IsGood (ap (λ o. unwrap_or o []) e) (good_push (waiting_for old writer) read (waiting_distinct old writer kept) apart))

pub kept_none : {old new : Index} {writer : TxnId} → Finds old new writer None → IsKept old → IsKept new
kept_none f kept = kept_after f kept (λ reads e. absurd (none-some reads e))

-- fewer of the reads that waited for the writer wait
pub kept_less : {old new : Index} {writer : TxnId} {reads : Reads} → Finds old new writer (Some reads) → IsKept old → IsGood reads → IsKept new
kept_less {reads = reads} f kept good = kept_after f kept (λ found e. subst IsGood (ap (λ o. unwrap_or o []) e) good)

some_read : (index : Index) (writer : TxnId) (reads : Reads) → waiting_for index writer ≡ reads → reads ≢ [] → HasWaiting index
some_read index writer [] at some = absurd (some refl)
some_read index writer (read ∷ more) at some =
    (read.0, writer, read.1, subst (λ (reads : Reads). Contains reads read) (sym at) (0, omega arith, refl))

-- an index with an entry has a read that waits
some_waits : (index : Index) → IsKept index → length index ≢ 0 → HasWaiting index
some_waits [] kept some = absurd (some refl)
some_waits ((writer, reads) ∷ more) kept some =
    let at : lookup (same_id writer) ((writer, reads) ∷ more) ≡ Some reads = ap (λ t. cond t (Some reads) (lookup (same_id writer) more)) (same_id_itself writer) in
    some_read ((writer, reads) ∷ more) writer reads (ap (λ o. unwrap_or o []) at) (kept writer reads at).0

-- an index with no entry has none
none_waits : (index : Index) → length index ≡ 0 → HasWaiting index → ⊥
none_waits [] none waits = let within = waits.3.1 in absurd (omega arith)
none_waits (entry ∷ more) none waits = absurd (omega arith)

-- an index is empty exactly where nothing waits
pub empty_or_waits : (empty : Bool) (index : Index) → IsKept index → IsTrue empty ↔ (length index ≡ 0) → IsTrue (not empty) ↔ HasWaiting index
empty_or_waits true index kept is = (λ h. absurd (false≢true h), λ waits. absurd (none_waits index (is.0 refl) waits))
empty_or_waits false index kept is = (λ _. some_waits index kept (λ none. false≢true (is.1 none)), λ _. refl)

-- some list has a read of one of these transactions exactly where such a read waits
pub waiting_in : (index : Index) (readers : List TxnId) → All (λ list. lookup (same_id list.0) index ≡ Some list.1) index → Any (λ list. HasReader list.1 readers) index ↔ HasWaitingIn index readers
waiting_in index readers found = (to_read, to_list)
  where
    to_read : Any (λ list. HasReader list.1 readers) index → HasWaitingIn index readers
    to_read any =
        let list = any.1 in
        let read = any.4.1 in
        let P : TxnId × Reads → Type 0 = λ l. lookup (same_id l.0) index ≡ Some l.1 in
        let at : lookup (same_id list.0) index ≡ Some list.1 = subst P any.3 (found any.0 list any.2) in
        let waits : Contains (waiting_for index list.0) read = subst (λ (reads : Reads). Contains reads read) (sym (ap (λ o. unwrap_or o []) at)) (any.4.0, any.4.2, any.4.3) in
        (read.0, list.0, read.1, any.4.4, waits)

    to_list_at : (reader writer : TxnId) (key : ℕ) → Contains readers reader → (reads : Option Reads) → lookup (same_id writer) index ≡ reads → Contains (unwrap_or reads []) (reader, key) → Any (λ list. HasReader list.1 readers) index
    to_list_at reader writer key among None at waits = let within = waits.1 in absurd (omega arith)
    to_list_at reader writer key among (Some reads) at waits =
        let stored = Contains-from_lookup same_id_is writer reads index at in
        (stored.0, (writer, reads), stored.1, stored.2, (waits.0, (reader, key), waits.1, waits.2, among))

    to_list : HasWaitingIn index readers → Any (λ list. HasReader list.1 readers) index
    to_list has = to_list_at has.0 has.1 has.2 has.3 (lookup (same_id has.1) index) refl has.4
