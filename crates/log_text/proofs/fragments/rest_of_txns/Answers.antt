use Rattle.std.proofs.Common.{◌∙◌}
use Rattle.log_text.specs.Commands.{txn_of}
use Rattle.log_text.proofs.TokensRead.{is_read}
use Rattle.log_text.proofs.TxnsRead.{txns_begin, txns_more, txns_end, txns_none}
use Rattle.log_text.proofs.fragments.rest_of_txns.Goals as goal

pub loop-alloc-init : goal.loop-alloc-init
loop-alloc-init c = txns_begin _ _ _ _ c.new-txns.ensures.items c.new-flags.ensures.items

pub loop-alloc-preserved : goal.loop-alloc-preserved
loop-alloc-preserved c =
    txns_more _ _ _ _ _ _ _ _ _ c.in-Some.txn c.in-Some.aborted c.loop-alloc.invariant c.loop-alloc-test.ensures.1 (is_read txn_of 3 _ _ _ _ c.in-Some.is c.in_ok-txn.ensures) c.in_ok-keep-in-Some.ensures c.in_ok-push-in-Some.ensures.items

pub returns-in-None : goal.returns-in-None
returns-in-None c = txns_none _ _ _ _ _ _ _ _ c.loop-alloc.invariant c.loop-alloc-test.ensures.0 c.loop-alloc-test.ensures.1 (is_read txn_of 3 _ _ _ _ c.in-None.is c.in_ok-txn.ensures)

pub returns : goal.returns
returns c = txns_end _ _ _ _ _ _ c.loop-alloc.invariant c.loop-alloc-test.ensures _ _ (c.new.ensures ∙ c.shrink_to_fit.ensures.items) (c.new-2.ensures ∙ c.shrink_to_fit-2.ensures.items)
