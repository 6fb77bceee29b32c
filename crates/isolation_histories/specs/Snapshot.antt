-- Snapshot isolation of whole histories (Berenson et al. 1995), where a session sees its own commits.
use Rattle.std.specs.Prelude.{◌≡◌, ◌≢◌, ℕ, ◌⊎◌, Bool, false, List, ◌∷◌, ◌++◌, Some, All, filter}
use Rattle.list_lemmas.specs.Precedes.{Precedes}
use Rattle.txn.specs.declared.transactions.TxnId.{TxnId}
use Rattle.txn.specs.declared.transactions.Source.{Source}
use Rattle.txn.specs.declared.transactions.Source.TheVariants.{Init, By}
use Rattle.txn.specs.declared.transactions.Txn.{Txn}
use Rattle.txn.specs.History.{History, Received, session_of, txn_at, writes_key, Writes}
use Rattle.order_check.specs.declared.remainder.Kind.{Kind}
use Rattle.order_check.specs.declared.remainder.Kind.TheVariants.{Serial, Pending, Violated, Spent}
use Rattle.order_check.specs.Whole.{HasPendingWhole}
use Rattle.isolation_histories.specs.declared.events.Event.{Event}
use Rattle.isolation_histories.specs.declared.events.Event.TheVariants.{Begin, Commit}
use Rattle.isolation_histories.specs.Events.{event_in_session, events_from}

-- whether it is the commit of a transaction that writes the key
abbrev pub commits_key : History → ℕ → Event → Bool
commits_key history key (Begin id) = false
commits_key history key (Commit id) = writes_key (txn_at history id) key

-- none of these events commits a version of the key
abbrev pub NoneCommits : History → ℕ → List Event → Type 0
NoneCommits history key events = All (λ event. commits_key history key event ≡ false) events

-- A read of a key from this source gives the last version committed in front. From the initial state: nothing in front
-- commits one. From a received id: it writes the key and commits in front, and nothing between commits a version.
abbrev pub SeesLastCommit : History → List Event → ℕ → Source → Type 0
SeesLastCommit history front key Init = NoneCommits history key front
SeesLastCommit history front key (By writer) = Received history writer → (older newer : List Event) × (front ≡ older ++ Commit writer ∷ newer) × Writes (txn_at history) writer key × NoneCommits history key newer

-- Begins and commits in this order are snapshot isolation.
pub record IsSnapshotOrder (history : History) (events : List Event) : Type 0 where
  -- session by session each received transaction begins, and commits before the next begins; there are no other events
  pub sessions : (s : ℕ) → filter (event_in_session s) events ≡ events_from s 0 (session_of history s)
  -- each read gives the last version that was committed before its transaction began
  pub reads : (front back : List Event) (id : TxnId) → events ≡ front ++ Begin id ∷ back → (txn : Txn) → txn_at history id ≡ Some txn → All (λ read. SeesLastCommit history front read.0 read.1) txn.reads
  -- of two transactions that write one key, one commits before the other begins
  pub apart : (a b : TxnId) (key : ℕ) → a ≢ b → Writes (txn_at history) a key → Writes (txn_at history) b key → Precedes events (Commit a) (Begin b) ⊎ Precedes events (Commit b) (Begin a)

-- some order of begins and commits is snapshot isolation
abbrev pub KeepsSnapshotIsolation : History → Type 0
KeepsSnapshotIsolation history = (events : List Event) × IsSnapshotOrder history events

-- Violated where the history doesn't keep snapshot isolation; else pending where some read is pending; else serial, which
-- says here that it is kept.
abbrev pub IsSnapshotVerdict : History → Kind → Type 0
IsSnapshotVerdict history Violated = ¬ KeepsSnapshotIsolation history
IsSnapshotVerdict history Pending = KeepsSnapshotIsolation history × HasPendingWhole history
IsSnapshotVerdict history Serial = KeepsSnapshotIsolation history × (¬ HasPendingWhole history)
IsSnapshotVerdict history Spent = ⊥
