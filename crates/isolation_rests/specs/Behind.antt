-- What parts that hold the halves of a history tell of it as it was offered, where something of it is gone.
use Rattle.std.specs.Prelude.{◌≡◌, ℕ, ◌<◌, ◌^◌, ◌↔◌, List, ◌∷◌, ◌++◌, None, Some, filter, map, take}
use Rattle.txn.specs.declared.transactions.TxnId.{TxnId}
use Rattle.txn.specs.History.{History, session_of, txn_at, Writes}
use Rattle.order_check.specs.declared.remainder.Parts.{Parts}
use Rattle.order_check.specs.Based.{last_gone, mark_of}
use Rattle.order_check.specs.Explains.{Explains}
use Rattle.isolation_histories.specs.declared.events.Event.{Event}
use Rattle.isolation_histories.specs.declared.events.Event.TheVariants.{Commit}
use Rattle.isolation_histories.specs.Events.{event_in_session, events_from}
use Rattle.isolation_histories.specs.Halves.{commit_half, half_of, event_at}
use Rattle.isolation_histories.specs.Snapshot.{IsSnapshotOrder, NoneCommits}
use Rattle.isolation_histories.specs.Split.{HistoryCanBeSplit}

-- With these begins and commits behind those that are gone, all of them are in an order that is snapshot isolation of the whole history.
abbrev pub KeepsBehind : History → List Event → List Event → Type 0
KeepsBehind history past events = IsSnapshotOrder history (past ++ events)

-- the last version of the key that is committed there is this transaction's
abbrev pub CommitsLast : History → List Event → ℕ → TxnId → Type 0
CommitsLast history past key writer = (older newer : List Event) × (past ≡ older ++ Commit writer ∷ newer) × Writes (txn_at history) writer key × NoneCommits history key newer

-- Parts of halves tell of the history as it was offered, of which these begins and commits are gone, in this order.
pub record TellBehind (past : List Event) (parts : Parts) (history : History) : Type 0 where
  -- session by session so many are gone as the mark says: the first ones
  pub gone : (s : ℕ) → filter (event_in_session s) past ≡ take (mark_of parts s) (events_from s 0 (session_of history s))
  -- each order that explains the parts, read as begins and commits, is behind these one of the whole history that is snapshot isolation
  pub orders : (order : List TxnId) → Explains parts order → KeepsBehind history past (map event_at order)
  -- and begins and commits that are, behind these, one of the whole history that is snapshot isolation stand for an order that explains the parts
  pub events : HistoryCanBeSplit history → (events : List Event) → KeepsBehind history past events → Explains parts (map half_of events)
  -- of each key but the epoch key: the last gone writer is the commit of the last version that is committed there, and there is none where none is
  pub last : (key : ℕ) → 0 < key → key < 2 ^ 63 → (writer : TxnId) → (last_gone parts key ≡ Some (commit_half writer)) ↔ CommitsLast history past key writer
  pub none : (key : ℕ) → 0 < key → key < 2 ^ 63 → (last_gone parts key ≡ None) ↔ NoneCommits history key past
