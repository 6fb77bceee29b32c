-- What orders of a split history's rest mean of the history as it was offered.
use Rattle.std.specs.Prelude.{List, ◌++◌}
use Rattle.txn.specs.History.{History}
use Rattle.isolation_histories.specs.declared.events.Event.{Event}
use Rattle.isolation_histories.specs.Snapshot.{IsSnapshotOrder}

-- These begins and commits are the end of such an order of the whole history: put behind some order of the rest, they are begins and commits of all of it in
-- an order that is snapshot isolation.
abbrev pub EndsSnapshotOrder : History → List Event → Type 0
EndsSnapshotOrder history events = (past : List Event) × IsSnapshotOrder history (past ++ events)
