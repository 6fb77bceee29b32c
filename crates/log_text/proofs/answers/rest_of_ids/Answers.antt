use Rattle.std.proofs.Common.{◌∙◌, arith}
use Rattle.log_text.specs.Shown.{id_of}
use Rattle.log_text.proofs.TokensRead.{so_far_begins, so_far_more, so_far_ends, so_far_none}
use Rattle.log_text.proofs.answers.rest_of_ids.Goals as goal

pub loop-names-init : goal.loop-names-init
loop-names-init c = so_far_begins (id_of c.args.names) 1 _ _ c.new-order.ensures.items

pub loop-names-preserved : goal.loop-names-preserved
loop-names-preserved c = so_far_more (id_of c.args.names) 1 1 _ _ _ _ _ _ c.in-Some.id (omega arith) c.loop-names.invariant c.loop-names-test.ensures.1 c.in-Some.ensures c.in_ok-push-in-Some.ensures.items

pub returns-in-None : goal.returns-in-None
returns-in-None c = so_far_none (id_of c.args.names) 1 1 _ _ _ _ _ _ (omega arith) c.loop-names.invariant c.loop-names-test.ensures.0 c.loop-names-test.ensures.1 c.in-None.ensures

pub returns : goal.returns
returns c = so_far_ends (id_of c.args.names) 1 _ _ _ _ _ c.loop-names.invariant c.loop-names-test.ensures (c.new.ensures ∙ c.shrink_to_fit.ensures.items)
