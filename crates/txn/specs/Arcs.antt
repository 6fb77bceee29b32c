-- Where arcs begin, and where they end.
use Rattle.txn.specs.declared.transactions.TxnId.{TxnId}
use Rattle.txn.specs.declared.choices.Arc.{Arc}
use Rattle.txn.specs.declared.choices.Arc.TheVariants.{Session, Read, Base, Taken}

-- the transaction that an arc begins at
abbrev pub start_of : Arc → TxnId
start_of (Session from to) = from
start_of (Read key from to) = from
start_of (Base key from to) = from
start_of (Taken from to) = from

-- the transaction that an arc ends at
abbrev pub end_of : Arc → TxnId
end_of (Session from to) = to
end_of (Read key from to) = to
end_of (Base key from to) = to
end_of (Taken from to) = to
