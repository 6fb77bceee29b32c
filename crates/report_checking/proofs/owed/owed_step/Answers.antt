use Rattle.std.proofs.Common.{ap, sym, subst}
use Rattle.log_text.specs.Replies.{HasKindOfOrder}
use Rattle.report_checking.proofs.OwedReplies.{plain_kind, step_owed}
use Rattle.report_checking.specs.declared.findings.Owed.TheVariants as owed
use Rattle.report_checking.proofs.owed.owed_step.Goals as goal

pub returns-clause-owed : goal.returns-clause-owed
returns-clause-owed c = (
  subst HasKindOfOrder (sym c.in_ok-reply_of.ensures) (plain_kind c.args.engine.now c.step-said.new.self c.args.step c.step-said.result c.requires c.step-said.ensures.right),
  step_owed c.args.engine.now c.step-said.new.self c.args.step c.step-said.result c.step-said.ensures.legal c.in_ok-reply_of.field-0 c.in_ok-reply_of.ensures,
)

pub returns-clause-told : goal.returns-clause-told
returns-clause-told c = (c.step-said.result, c.step-said.new.self, c.step-said.ensures.right, ap owed.Reply c.in_ok-reply_of.ensures)
