use Rattle.std.proofs.lemmas.Result.{IfOk-weaker}
use Rattle.report_checking.proofs.OwedReplies.{finish_where_owed, refused_where}
use Rattle.report_checking.proofs.RightReports.{where_right}
use Rattle.report_checking.proofs.OtherReplies.{where_alone, finish_alone}
use Rattle.report_checking.proofs.open_scripts.OpenScript.finish_where.Goals as goal

pub returns-then-may-clause-owed : goal.returns-then-may-clause-owed
returns-then-may-clause-owed c =
    IfOk-weaker c.owed_finish.result _ _ (λ given. finish_where_owed c.args.self.now.engine c.owed_finish.new.engine c.args.may c.args.self.now.searched c.args.refusal given c.if-may.true) c.owed_finish.ensures.owed

pub returns-else-may-clause-owed : goal.returns-else-may-clause-owed
returns-else-may-clause-owed c = (tt, refused_where c.args.self.now.engine c.args.may c.args.self.now.searched c.args.refusal c.if-may.false)

pub returns-then-may-clause-right : goal.returns-then-may-clause-right
returns-then-may-clause-right c = IfOk-weaker c.owed_finish.result _ _ (λ given. where_right c.args.names c.args.self.now.engine c.args.may c.args.stored.now given) c.owed_finish.ensures.right

pub returns-then-may-clause-alone : goal.returns-then-may-clause-alone
returns-then-may-clause-alone c =
    IfOk-weaker c.owed_finish.result _ _ (λ given none. where_alone c.args.may c.args.refusal c.args.self.now.engine given c.if-may.true (finish_alone c.args.self.now.engine given none)) c.owed_finish.ensures.none
