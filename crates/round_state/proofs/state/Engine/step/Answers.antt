use Rattle.round_state.proofs.state.Engine.step.Goals as goal

pub returns-in-Offer-clause-right : goal.returns-in-Offer-clause-right
returns-in-Offer-clause-right g c = rw c.in-Offer.is c.reply_to_offer.ensures.right

pub returns-in-Offer-clause-legal : goal.returns-in-Offer-clause-legal
returns-in-Offer-clause-legal g c = c.right_is_legal.ensures c.args.step c.reply_to_offer.result c.reply_to_offer.new.self (rw c.in-Offer.is c.reply_to_offer.ensures.right)

pub returns-in-Join-clause-right : goal.returns-in-Join-clause-right
returns-in-Join-clause-right g c = rw c.in-Join.is c.reply_to_join.ensures.right

pub returns-in-Join-clause-legal : goal.returns-in-Join-clause-legal
returns-in-Join-clause-legal g c = c.right_is_legal.ensures c.args.step c.reply_to_join.result c.reply_to_join.new.self (rw c.in-Join.is c.reply_to_join.ensures.right)

pub returns-in-Begin-clause-right : goal.returns-in-Begin-clause-right
returns-in-Begin-clause-right g c = rw c.in-Begin.is c.reply_to_begin.ensures.right

pub returns-in-Begin-clause-legal : goal.returns-in-Begin-clause-legal
returns-in-Begin-clause-legal g c = c.right_is_legal.ensures c.args.step c.reply_to_begin.result c.reply_to_begin.new.self (rw c.in-Begin.is c.reply_to_begin.ensures.right)

pub returns-in-Finish-clause-right : goal.returns-in-Finish-clause-right
returns-in-Finish-clause-right g c = rw c.in-Finish.is c.reply_to_finish.ensures.right

pub returns-in-Finish-clause-legal : goal.returns-in-Finish-clause-legal
returns-in-Finish-clause-legal g c = c.right_is_legal.ensures c.args.step c.reply_to_finish.result c.reply_to_finish.new.self (rw c.in-Finish.is c.reply_to_finish.ensures.right)

pub returns-in-Judge-clause-right : goal.returns-in-Judge-clause-right
returns-in-Judge-clause-right g c = rw c.in-Judge.is c.reply_to_judge.ensures.right

pub returns-in-Judge-clause-legal : goal.returns-in-Judge-clause-legal
returns-in-Judge-clause-legal g c = c.right_is_legal.ensures c.args.step c.reply_to_judge.result c.reply_to_judge.new.self (rw c.in-Judge.is c.reply_to_judge.ensures.right)

pub returns-in-Abandon-clause-right : goal.returns-in-Abandon-clause-right
returns-in-Abandon-clause-right g c = rw c.in-Abandon.is c.reply_to_abandon.ensures.right

pub returns-in-Abandon-clause-legal : goal.returns-in-Abandon-clause-legal
returns-in-Abandon-clause-legal g c = c.right_is_legal.ensures c.args.step c.reply_to_abandon.result c.reply_to_abandon.new.self (rw c.in-Abandon.is c.reply_to_abandon.ensures.right)

pub returns-in-Close-clause-right : goal.returns-in-Close-clause-right
returns-in-Close-clause-right g c = rw c.in-Close.is c.reply_to_close.ensures.right

pub returns-in-Close-clause-legal : goal.returns-in-Close-clause-legal
returns-in-Close-clause-legal g c = c.right_is_legal.ensures c.args.step c.reply_to_close.result c.reply_to_close.new.self (rw c.in-Close.is c.reply_to_close.ensures.right)

pub returns-in-Rebuild-clause-right : goal.returns-in-Rebuild-clause-right
returns-in-Rebuild-clause-right g c = rw c.in-Rebuild.is c.reply_to_rebuild.ensures.right

pub returns-in-Rebuild-clause-legal : goal.returns-in-Rebuild-clause-legal
returns-in-Rebuild-clause-legal g c = c.right_is_legal.ensures c.args.step c.reply_to_rebuild.result c.reply_to_rebuild.new.self (rw c.in-Rebuild.is c.reply_to_rebuild.ensures.right)

pub returns-in-Truncate-clause-right : goal.returns-in-Truncate-clause-right
returns-in-Truncate-clause-right g c = rw c.in-Truncate.is c.reply_to_truncate.ensures.right

pub returns-in-Truncate-clause-legal : goal.returns-in-Truncate-clause-legal
returns-in-Truncate-clause-legal g c = c.right_is_legal.ensures c.args.step c.reply_to_truncate.result c.reply_to_truncate.new.self (rw c.in-Truncate.is c.reply_to_truncate.ensures.right)
