use Rattle.std.proofs.Common.{refl}
use Rattle.log_text.specs.Items.{list_of}
use Rattle.log_text.specs.Numbers.{whole_number}
use Rattle.log_text.specs.Commands.{read_of, aborted_in}
use Rattle.log_text.proofs.TokensRead.{is_read, are_read}
use Rattle.log_text.proofs.TxnsRead.{no_reads, no_writes, parts_read}
use Rattle.log_text.proofs.fragments.parts_of_txn.Goals as goal

pub returns-in_default : goal.returns-in_default
returns-in_default c = no_reads _ _ _ (is_read (list_of read_of) 2 _ _ _ _ c.in_default.is c.in_ok-reads.ensures)

pub returns-in_default-2 : goal.returns-in_default-2
returns-in_default-2 c =
    no_writes _ _ _ _ c.in-Some.reads (is_read (list_of read_of) 2 _ _ _ _ c.in-Some.is c.in_ok-reads.ensures) (is_read (list_of whole_number) 1 _ _ _ _ c.in_default-2.is c.in_ok-writes.ensures)

pub returns-in-Some-3 : goal.returns-in-Some-3
returns-in-Some-3 c =
    parts_read _ _ _ _ c.in-Some.reads c.in-Some-2.writes _ _ (is_read (list_of read_of) 2 _ _ _ _ c.in-Some.is c.in_ok-reads.ensures) (is_read (list_of whole_number) 1 _ _ _ _ c.in-Some-2.is c.in_ok-writes.ensures)
    (are_read aborted_in 0 _ _ _ _ c.in-Some-3.is c.in_ok-aborted.ensures) refl

pub returns-in-None : goal.returns-in-None
returns-in-None c =
    parts_read _ _ _ _ c.in-Some.reads c.in-Some-2.writes _ _ (is_read (list_of read_of) 2 _ _ _ _ c.in-Some.is c.in_ok-reads.ensures) (is_read (list_of whole_number) 1 _ _ _ _ c.in-Some-2.is c.in_ok-writes.ensures)
    (are_read aborted_in 0 _ _ _ _ c.in-None.is c.in_ok-aborted.ensures) refl
