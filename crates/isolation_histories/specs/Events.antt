-- Begins and commits of the transactions of a history.
use Rattle.std.specs.Prelude.{ℕ, ◌+◌, Bool, List, [], ◌∷◌}
use Rattle.txn.specs.declared.transactions.TxnId.{TxnId}
use Rattle.txn.specs.declared.transactions.Txn.{Txn}
use Rattle.txn.specs.History.{in_session}
use Rattle.isolation_histories.specs.declared.events.Event.{Event}
use Rattle.isolation_histories.specs.declared.events.Event.TheVariants.{Begin, Commit}

-- which transaction begins or commits
abbrev pub txn_of : Event → TxnId
txn_of (Begin id) = id
txn_of (Commit id) = id

-- whether a transaction of the session begins or commits
abbrev pub event_in_session : ℕ → Event → Bool
event_in_session s event = in_session s (txn_of event)

-- the begins and commits of a session's transactions, the first with this number: each begins, and commits before the next begins
abbrev pub events_from : ℕ → ℕ → List Txn → List Event
events_from s number [] = []
events_from s number (txn ∷ txns) = Begin (record { session = s; number = number }) ∷ Commit (record { session = s; number = number }) ∷ events_from s (number + 1) txns
