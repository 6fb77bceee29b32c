-- Choices: their order, and their sides.
use Rattle.std.specs.Prelude.{Bool, ◌||◌, ◌&&◌, nat_lt, nat_eq}
use Rattle.txn.specs.declared.transactions.TxnId.{TxnId}
use Rattle.txn.specs.declared.choices.Choice.{Choice}
use Rattle.txn.specs.Transactions.{id_below, same_id}

-- choices are ordered by reader, key, writer, other writer
abbrev pub choice_below : Choice → Choice → Bool
choice_below a b =
    id_below a.reader b.reader
    || (same_id a.reader b.reader && (nat_lt a.key b.key
    || (nat_eq a.key b.key && (id_below a.writer b.writer
    || (same_id a.writer b.writer && id_below a.other b.other)))))

-- the first side of a choice: the other writer before the writer
abbrev pub first_side : Choice → TxnId × TxnId
first_side choice = (choice.other, choice.writer)

-- the second side: the reader before the other writer
abbrev pub second_side : Choice → TxnId × TxnId
second_side choice = (choice.reader, choice.other)
