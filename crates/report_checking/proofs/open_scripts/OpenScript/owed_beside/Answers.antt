use Rattle.std.proofs.lemmas.Result.{IfOk-weaker}
use Rattle.report_checking.proofs.OwedReplies.{begins_owed, collect_owed}
use Rattle.report_checking.proofs.OtherReplies.{begins_alone}
use Rattle.round_state.specs.declared.steps.Step.TheVariants as step
use Rattle.report_checking.specs.Unshown.{EndsWrong}
use Rattle.report_checking.proofs.UnshownReplies.{unshows_told}
use Rattle.report_checking.proofs.open_scripts.OpenScript.owed_beside.Goals as goal

pub returns-in-BeginSearch-clause-owed : goal.returns-in-BeginSearch-clause-owed
returns-in-BeginSearch-clause-owed c = (
  c.begin_search.ensures.kind,
  begins_owed c.args.self.now.engine c.begin_search.new.self.engine c.args.version c.args.self.now.searched c.begin_search.new.self.searched c.args.command c.begin_search.result c.in-BeginSearch.budget c.in-BeginSearch.depth c.in-BeginSearch.workers c.in-BeginSearch.search c.in-BeginSearch.is c.begin_search.ensures.begins c.begin_search.ensures.same.0,
)

pub returns-in-BeginSearch-clause-alone : goal.returns-in-BeginSearch-clause-alone
returns-in-BeginSearch-clause-alone c =
    rw c.in-BeginSearch.is
    (begins_alone c.args.version c.args.self.now.searched c.begin_search.new.self.searched c.args.self.now.engine c.in-BeginSearch.budget c.in-BeginSearch.depth c.in-BeginSearch.workers c.in-BeginSearch.search c.begin_search.result c.begin_search.ensures.begins)

pub returns-in-Collect-clause-owed : goal.returns-in-Collect-clause-owed
returns-in-Collect-clause-owed c =
    rw c.in-Collect.is
    (IfOk-weaker c.finish_where.result _ _ (λ given. collect_owed c.args.self.now.engine c.finish_where.new.self.engine c.args.version c.in-Collect.waits c.args.self.now.searched c.finish_where.new.self.searched given) c.finish_where.ensures.owed)

pub returns-in-Collect-clause-right : goal.returns-in-Collect-clause-right
returns-in-Collect-clause-right c = rw c.in-Collect.is c.finish_where.ensures.right

pub returns-in-Skip-clause-owed : goal.returns-in-Skip-clause-owed
returns-in-Skip-clause-owed c = rw c.in-Skip.is c.skip.ensures.owed

pub returns-in-Finish-clause-owed : goal.returns-in-Finish-clause-owed
returns-in-Finish-clause-owed c = rw c.in-Finish.is c.finish_where-in-Finish.ensures.owed

pub returns-in-Finish-clause-right : goal.returns-in-Finish-clause-right
returns-in-Finish-clause-right c = rw c.in-Finish.is c.finish_where-in-Finish.ensures.right

pub returns-in-Collect-clause-unshown : goal.returns-in-Collect-clause-unshown
returns-in-Collect-clause-unshown c = rw c.in-Collect.is c.finish_where.ensures.unshown

pub returns-in-Finish-clause-unshown : goal.returns-in-Finish-clause-unshown
returns-in-Finish-clause-unshown c = rw c.in-Finish.is c.finish_where-in-Finish.ensures.unshown

pub returns-in-Skip-clause-unshown : goal.returns-in-Skip-clause-unshown
returns-in-Skip-clause-unshown c = IfOk-weaker c.skip.result _ _ (λ given. unshows_told (EndsWrong c.args.names c.args.self.now.engine c.args.command c.args.stored.now) c.args.self.now.engine step.Abandon given) c.skip.ensures.told
