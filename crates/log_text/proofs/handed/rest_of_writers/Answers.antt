use Rattle.std.proofs.Common.{◌∙◌, arith}
use Rattle.log_text.specs.Commands.{writer_of}
use Rattle.log_text.proofs.TokensRead.{so_far_begins, so_far_more, so_far_ends, so_far_none, is_read}
use Rattle.log_text.proofs.handed.rest_of_writers.Goals as goal

pub loop-alloc-init : goal.loop-alloc-init
loop-alloc-init c = so_far_begins writer_of 1 _ _ c.new-writers.ensures.items

pub loop-alloc-preserved : goal.loop-alloc-preserved
loop-alloc-preserved c =
    so_far_more writer_of 1 1 _ _ _ _ _ _ c.in-Some.writer (omega arith) c.loop-alloc.invariant c.loop-alloc-test.ensures.1 (is_read writer_of 1 _ _ _ _ c.in-Some.is c.in_ok-writer.ensures) c.in_ok-push-in-Some.ensures.items

pub returns-in-None : goal.returns-in-None
returns-in-None c = so_far_none writer_of 1 1 _ _ _ _ _ _ (omega arith) c.loop-alloc.invariant c.loop-alloc-test.ensures.0 c.loop-alloc-test.ensures.1 (is_read writer_of 1 _ _ _ _ c.in-None.is c.in_ok-writer.ensures)

pub returns : goal.returns
returns c = so_far_ends writer_of 1 _ _ _ _ _ c.loop-alloc.invariant c.loop-alloc-test.ensures (c.new.ensures ∙ c.shrink_to_fit.ensures.items)
