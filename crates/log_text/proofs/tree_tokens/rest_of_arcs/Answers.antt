use Rattle.std.proofs.Common.{◌∙◌, arith}
use Rattle.log_text.specs.Refutations.{arc_of}
use Rattle.log_text.proofs.TokensRead.{so_far_begins, so_far_more, so_far_ends, so_far_none}
use Rattle.log_text.proofs.tree_tokens.rest_of_arcs.Goals as goal

pub loop-alloc-init : goal.loop-alloc-init
loop-alloc-init c = so_far_begins (arc_of c.args.names) 1 _ _ c.new-arcs.ensures.items

pub loop-alloc-preserved : goal.loop-alloc-preserved
loop-alloc-preserved c = so_far_more (arc_of c.args.names) 1 1 _ _ _ _ _ _ c.in-Some.arc (omega arith) c.loop-alloc.invariant c.loop-alloc-test.ensures.1 (rw c.in-Some.is at c.in_ok-arc.ensures) c.in_ok-push-in-Some.ensures.items

pub returns-in-None : goal.returns-in-None
returns-in-None c = so_far_none (arc_of c.args.names) 1 1 _ _ _ _ _ _ (omega arith) c.loop-alloc.invariant c.loop-alloc-test.ensures.0 c.loop-alloc-test.ensures.1 (rw c.in-None.is at c.in_ok-arc.ensures)

pub returns : goal.returns
returns c = so_far_ends (arc_of c.args.names) 1 _ _ _ _ _ c.loop-alloc.invariant c.loop-alloc-test.ensures (c.new.ensures ∙ c.shrink_to_fit.ensures.items)
