use Rattle.std.proofs.Common.{◌∙◌, arith}
use Rattle.log_text.specs.Commands.{read_of}
use Rattle.log_text.proofs.TokensRead.{so_far_begins, so_far_more, so_far_ends, so_far_none, is_read}
use Rattle.log_text.proofs.fragments.rest_of_reads.Goals as goal

pub loop-reader-init : goal.loop-reader-init
loop-reader-init c = so_far_begins read_of 1 _ _ c.new-reads.ensures.items

pub loop-reader-preserved : goal.loop-reader-preserved
loop-reader-preserved c =
    so_far_more read_of 1 1 _ _ _ _ _ _ c.in-Some.read (omega arith) c.loop-reader.invariant c.loop-reader-test.ensures.1 (is_read read_of 1 _ _ _ _ c.in-Some.is c.in_ok-read.ensures) c.in_ok-push-in-Some.ensures.items

pub returns-in-None : goal.returns-in-None
returns-in-None c = so_far_none read_of 1 1 _ _ _ _ _ _ (omega arith) c.loop-reader.invariant c.loop-reader-test.ensures.0 c.loop-reader-test.ensures.1 (is_read read_of 1 _ _ _ _ c.in-None.is c.in_ok-read.ensures)

pub returns : goal.returns
returns c = so_far_ends read_of 1 _ _ _ _ _ c.loop-reader.invariant c.loop-reader-test.ensures (c.new.ensures ∙ c.in_ok-reads.ensures)
