use Rattle.std.proofs.Common.{◌+◌, subst}
use Rattle.std.specs.Prelude.{IsSomeAnd}
use Rattle.round_state.specs.EngineState.{EngineState}
use Rattle.round_state.specs.Solving.{IsReportOn}
use Rattle.report_checking.specs.Owing.{IsEarned}
use Rattle.report_checking.proofs.EarnedReports.{earned_by, owed_report}
use Rattle.report_checking.proofs.RightReports.{reported_by}
use Rattle.report_checking.proofs.replayed.Replayed.finish.Goals as goal

pub returns-clause-earned : goal.returns-clause-earned
returns-clause-earned c =
    subst (λ (engine : EngineState). IsEarned engine c.in_ok-report.report c.finish.new.self) c.self.view_is (earned_by c.self.inside.engine c.finish.new.self c.args.answer c.in_ok-report.report c.in_ok-report.ensures.ok)

pub returns-clause-owed : goal.returns-clause-owed
returns-clause-owed c =
    let earned = subst (λ (engine : EngineState). IsEarned engine c.in_ok-report.report c.finish.new.self) c.self.view_is (earned_by c.self.inside.engine c.finish.new.self c.args.answer c.in_ok-report.report c.in_ok-report.ensures.ok) in
    owed_report c.args.self.now c.finish.new.self c.in_ok-report.report c.verdict_as_stood_for.ensures c.refuted_has_no_order.ensures c.has_good_snapshot.ensures earned

pub returns-clause-answered : goal.returns-clause-answered
returns-clause-answered c =
    subst (λ (engine : EngineState). IsSomeAnd engine.asked (λ parts. IsReportOn parts (engine.rounds + 1) c.args.answer c.in_ok-report.report)) c.self.view_is (reported_by c.self.inside.engine c.finish.new.self c.args.answer c.in_ok-report.report c.in_ok-report.ensures.ok.0)
