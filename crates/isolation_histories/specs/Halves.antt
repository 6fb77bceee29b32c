-- The two transactions that stand in a split history for the begin and the commit of one.
use Rattle.std.specs.Prelude.{◌+◌, ◌*◌, ◌/◌, ◌%◌, cond, nat_eq}
use Rattle.txn.specs.declared.transactions.TxnId.{TxnId}
use Rattle.isolation_histories.specs.declared.events.Event.{Event}
use Rattle.isolation_histories.specs.declared.events.Event.TheVariants.{Begin, Commit}

-- what stands for its begin
abbrev pub begin_half : TxnId → TxnId
begin_half id = record { session = id.session; number = 2 * id.number }

-- what stands for its commit, right after that
abbrev pub commit_half : TxnId → TxnId
commit_half id = record { session = id.session; number = 2 * id.number + 1 }

-- what stands for an event
abbrev pub half_of : Event → TxnId
half_of (Begin id) = begin_half id
half_of (Commit id) = commit_half id

-- which event a transaction of the split history stands for: those with even numbers for begins, the others for commits
abbrev pub event_at : TxnId → Event
event_at half = cond (nat_eq (half.number % 2) 0) (Begin (record { session = half.session; number = half.number / 2 })) (Commit (record { session = half.session; number = half.number / 2 }))
