use Rattle.report_checking.proofs.OwedReplies.{engine_owed}
use Rattle.report_checking.proofs.RightReports.{engine_right}
use Rattle.report_checking.proofs.OtherReplies.{engine_alone}
use Rattle.report_checking.proofs.open_scripts.OpenScript.owed_by_engine.Goals as goal

pub returns-clause-owed : goal.returns-clause-owed
returns-clause-owed c =
    engine_owed c.args.self.now.engine c.owed_open.new.engine c.args.version c.args.self.now.searched c.lasts-self.result c.args.command c.in_ok-owed.owed c.requires c.lasts-self.ensures c.in_ok-owed.ensures.owed

pub returns-clause-right : goal.returns-clause-right
returns-clause-right c = engine_right c.args.names c.args.self.now.searched c.args.self.now.engine c.args.command c.args.stored.now c.in_ok-owed.owed c.requires c.in_ok-owed.ensures.right

pub returns-clause-alone : goal.returns-clause-alone
returns-clause-alone c = engine_alone c.args.version c.args.self.now.searched c.args.self.now.engine c.args.command c.in_ok-owed.owed c.requires c.in_ok-owed.ensures.alone
