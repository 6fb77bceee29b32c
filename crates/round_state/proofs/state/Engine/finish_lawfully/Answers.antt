use Rattle.round_state.proofs.Replies.{finish_right, report_tells}
use Rattle.round_state.proofs.state.Engine.finish_lawfully.Goals as goal

pub returns-clause-told : goal.returns-clause-told
returns-clause-told c = report_tells c.args.self.now c.finish.new.self c.args.answer c.finish.result c.finish.ensures.ok

pub returns-clause-right : goal.returns-clause-right
returns-clause-right c budget depth workers lawful =
    finish_right c.args.self.now c.finish.new.self budget depth workers c.args.answer c.finish.result
    c.refuted_has_no_order.ensures c.has_good_snapshot.ensures lawful c.finish.ensures.ok c.finish.ensures.err
