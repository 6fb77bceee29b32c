use Rattle.std.proofs.Common.{◌∙◌, arith}
use Rattle.log_text.specs.Numbers.{whole_number}
use Rattle.log_text.proofs.TokensRead.{so_far_begins, so_far_more, so_far_ends, so_far_none}
use Rattle.log_text.proofs.streams.rest_of_numbers.Goals as goal

pub loop-reader-init : goal.loop-reader-init
loop-reader-init c = so_far_begins whole_number 0 _ _ c.new-numbers.ensures.items

pub loop-reader-preserved : goal.loop-reader-preserved
loop-reader-preserved c = so_far_more whole_number 0 0 _ _ _ _ _ _ c.in-Some.number (omega arith) c.loop-reader.invariant c.loop-reader-test.ensures.1 c.in-Some.ensures c.in_ok-push-in-Some.ensures.items

pub returns-in-None : goal.returns-in-None
returns-in-None c = so_far_none whole_number 0 0 _ _ _ _ _ _ (omega arith) c.loop-reader.invariant c.loop-reader-test.ensures.0 c.loop-reader-test.ensures.1 c.in-None.ensures

pub returns : goal.returns
returns c = so_far_ends whole_number 0 _ _ _ _ _ c.loop-reader.invariant c.loop-reader-test.ensures (c.new.ensures ∙ c.in_ok-numbers.ensures)
