-- What holds of parts holds of them with more transactions.
use Rattle.std.proofs.Common.{◌≡◌, ◌≢◌, ℕ, ◌-◌, ◌<◌, ◌≤◌, ◌⊎◌, ◌++◌, true, false, cond, List, [], length, refl, sym, ap, ◌∙◌, inl, inr, subst, arith, Option, Some, None, IsSome, nat_lt, nat_eq, length-append}
use Rattle.std.specs.Prelude.{Contains, IsSomeAnd, slice_set}
use Rattle.std.specs.List.{slice_get}
use Rattle.std.proofs.lemmas.Bool.Decides.{eqb_tells}
use Rattle.std.proofs.lemmas.List.{get_or-set_same, get_or-set_other, get_or_append_left, append-nil}
use Rattle.std.proofs.lemmas.Option.{slice_get-get_or}
use Rattle.txn.specs.declared.transactions.TxnId.{TxnId}
use Rattle.txn.specs.declared.transactions.Txn.{Txn}
use Rattle.txn.specs.declared.transactions.Fragment.{Fragment}
use Rattle.txn.specs.declared.transactions.Source.{Source}
use Rattle.txn.specs.declared.transactions.Source.TheVariants.{Init, By}
use Rattle.txn.specs.declared.choices.Choice.{Choice}
use Rattle.txn.specs.History.{writes_key, session_of}
use Rattle.order_check.specs.declared.remainder.Parts.{Parts}
use Rattle.order_check.specs.Based.{mark_of, remaining_of, Remains}
use Rattle.order_check.specs.Cycles.{Sides}
use Rattle.order_check.specs.Known.{Known, ReadsKey, WritesKey, ReadsBase, IsBaseSource, IsChoice, by_session, by_read, by_base, by_taken, through, forces_after, forces_before}
use Rattle.order_check.specs.StandsFor.{parts_with}
use Rattle.clock_choices.specs.Growth.{AreMore}
use Rattle.clock_choices.proofs.Remaining.{bounds_of, bounds_remain, reader_remains, writer_remains}

-- a fragment at the end of a session
session_with : (sessions : List (List Txn)) (place s : ℕ) (txns : List Txn) → place < length sessions → (extra : List Txn) × (session_of (slice_set sessions place (session_of sessions place ++ txns)) s ≡ session_of sessions s ++ extra)
session_with sessions place s txns within = by_place (eqb_tells s place)
  where
    more : List (List Txn)
    more = slice_set sessions place (session_of sessions place ++ txns)

    by_place : ((nat_eq s place ≡ true) × (s ≡ place)) ⊎ ((nat_eq s place ≡ false) × (s ≢ place)) → (extra : List Txn) × (session_of more s ≡ session_of sessions s ++ extra)
    by_place (inl (t, e)) = (txns, subst (λ q. session_of more q ≡ session_of sessions q ++ txns) (sym e) (get_or-set_same sessions place (session_of sessions place ++ txns) [] within))
    by_place (inr (t, ne)) = ([], get_or-set_other sessions place s (session_of sessions place ++ txns) [] ne ∙ sym (append-nil (session_of sessions s)))

get_in_front : (xs ys : List Txn) (k : ℕ) → k < length xs → slice_get (xs ++ ys) k ≡ slice_get xs k
get_in_front xs ys k within =
    let none : Txn = record { reads = []; writes = [] } in
    let len = length-append xs ys in
    slice_get-get_or (xs ++ ys) k none (omega arith) ∙ ap Some (get_or_append_left xs ys none k within) ∙ sym (slice_get-get_or xs k none within)

pub more_with : (parts : Parts) (fragment : Fragment) → fragment.session < length parts.remain → AreMore parts (parts_with parts fragment)
more_with parts fragment within = record {
  same = λ id h.
      let grown = session_with parts.remain fragment.session id.session fragment.txns within in
      let mark = mark_of parts id.session in
      let bounds = bounds_of parts id h in
      ap (λ (txns : List Txn). cond (nat_lt id.number mark) None (slice_get txns (id.number - mark))) grown.1 ∙ ap (λ (found : Option Txn). cond (nat_lt id.number mark) None found) (get_in_front (remaining_of parts id.session) grown.0 (id.number - mark) bounds.high);
  base = λ key. refl;
  behind = λ a b there here same below.
      let low : mark_of parts a.session ≤ a.number = (bounds_of (parts_with parts fragment) a there).low in
      let high : b.number - mark_of parts a.session < length (remaining_of parts a.session) = subst (λ s. b.number - mark_of parts s < length (remaining_of parts s)) (sym same) (bounds_of parts b here).high in
      bounds_remain parts a (record { low = low; high = omega arith });
}

-- what remains, with its reads and writes
pub remains_more : (parts more : Parts) (id : TxnId) → AreMore parts more → Remains parts id → Remains more id
remains_more parts more id are h = subst (λ (found : Option Txn). IsSome found) (sym (are.same id h)) h

pub reads_more : (parts more : Parts) (id : TxnId) (key : ℕ) (source : Source) → AreMore parts more → ReadsKey parts id key source → ReadsKey more id key source
reads_more parts more id key source are reads = subst (λ (found : Option Txn). IsSomeAnd found (λ txn. Contains txn.reads (key, source))) (sym (are.same id (reader_remains parts id key source reads))) reads

pub reads_less : (parts more : Parts) (id : TxnId) (key : ℕ) (source : Source) → AreMore parts more → Remains parts id → ReadsKey more id key source → ReadsKey parts id key source
reads_less parts more id key source are h reads = subst (λ (found : Option Txn). IsSomeAnd found (λ txn. Contains txn.reads (key, source))) (are.same id h) reads

pub writes_more : (parts more : Parts) (id : TxnId) (key : ℕ) → AreMore parts more → WritesKey parts id key → WritesKey more id key
writes_more parts more id key are writes = subst (λ (found : Option Txn). writes_key found key ≡ true) (sym (are.same id (writer_remains parts id key writes))) writes

pub writes_less : (parts more : Parts) (id : TxnId) (key : ℕ) → AreMore parts more → Remains parts id → WritesKey more id key → WritesKey parts id key
writes_less parts more id key are h writes = subst (λ (found : Option Txn). writes_key found key ≡ true) (are.same id h) writes

base_more : (parts more : Parts) (key : ℕ) (source : Source) → AreMore parts more → IsBaseSource parts key source → IsBaseSource more key source
base_more parts more key Init are h = are.base key ∙ h
base_more parts more key (By writer) are h = are.base key ∙ h

pub base_less : (parts more : Parts) (key : ℕ) (source : Source) → AreMore parts more → IsBaseSource more key source → IsBaseSource parts key source
base_less parts more key Init are h = sym (are.base key) ∙ h
base_less parts more key (By writer) are h = sym (are.base key) ∙ h

pub reads_base_more : (parts more : Parts) (id : TxnId) (key : ℕ) → AreMore parts more → ReadsBase parts id key → ReadsBase more id key
reads_base_more parts more id key are (source, reads, base) = (source, reads_more parts more id key source are reads, base_more parts more key source are base)

pub reads_base_less : (parts more : Parts) (id : TxnId) (key : ℕ) → AreMore parts more → Remains parts id → ReadsBase more id key → ReadsBase parts id key
reads_base_less parts more id key are h (source, reads, base) = (source, reads_less parts more id key source are h reads, base_less parts more key source are base)

-- choices
pub choice_more : (parts more : Parts) (choice : Choice) → AreMore parts more → IsChoice parts choice → IsChoice more choice
choice_more parts more choice are is = record {
  reads = reads_more parts more choice.reader choice.key (By choice.writer) are is.reads;
  written = writes_more parts more choice.writer choice.key are is.written;
  other = writes_more parts more choice.other choice.key are is.other;
  not_writer = is.not_writer;
  not_reader = is.not_reader;
}

pub choice_less : (parts more : Parts) (choice : Choice) → AreMore parts more → Remains parts choice.reader → Remains parts choice.writer → Remains parts choice.other → IsChoice more choice → IsChoice parts choice
choice_less parts more choice are reader writer other is = record {
  reads = reads_less parts more choice.reader choice.key (By choice.writer) are reader is.reads;
  written = writes_less parts more choice.writer choice.key are writer is.written;
  other = writes_less parts more choice.other choice.key are other is.other;
  not_writer = is.not_writer;
  not_reader = is.not_reader;
}

-- what is known
pub known_grows : (parts more : Parts) (taken : Sides) (a b : TxnId) → AreMore parts more → Known parts taken a b → Known more taken a b
known_grows parts more taken a b are (by_session ra rb same below) = by_session (remains_more parts more a are ra) (remains_more parts more b are rb) same below
known_grows parts more taken a b are (by_read key reads writes) = by_read key (reads_more parts more b key (By a) are reads) (writes_more parts more a key are writes)
known_grows parts more taken a b are (by_base key reads writes apart) = by_base key (reads_base_more parts more a key are reads) (writes_more parts more b key are writes) apart
known_grows parts more taken a b are (by_taken h) = by_taken h
known_grows parts more taken a b are (through {b = m} first second) = through (known_grows parts more taken a m are first) (known_grows parts more taken m b are second)
known_grows parts more taken a b are (forces_after choice is before) = forces_after choice (choice_more parts more choice are is) (known_grows parts more taken choice.writer choice.other are before)
known_grows parts more taken a b are (forces_before choice is before) = forces_before choice (choice_more parts more choice are is) (known_grows parts more taken choice.other choice.reader are before)
