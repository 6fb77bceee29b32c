use Rattle.std.proofs.Common.{◌+◌, sym, subst}
use Rattle.log_text.specs.Replies.{HasKindOfOrder}
use Rattle.report_checking.proofs.EarnedReports.{earned_kind}
use Rattle.report_checking.proofs.OwedReplies.{report_owed, no_round_owed}
use Rattle.report_checking.proofs.RightReports.{right_finished, never_none, never_bad}
use Rattle.round_state.specs.Solving.{IsReportOn, IsWrong}
use Rattle.report_checking.proofs.OtherReplies.{open_and_none}
use Rattle.report_checking.proofs.UnshownReplies.{unshown_finish}
use Rattle.report_checking.proofs.owed.owed_finish.Goals as goal

pub returns-in-Ok-clause-owed : goal.returns-in-Ok-clause-owed
returns-in-Ok-clause-owed c = (
  subst HasKindOfOrder (sym c.report_of.ensures) (earned_kind c.args.engine.now c.finish.new.self c.in-Ok.report c.in-Ok.ensures.earned),
  report_owed c.args.engine.now c.finish.new.self c.in-Ok.report c.in-Ok.ensures.owed c.report_of.result c.report_of.ensures,
)

pub returns-in-Err-NoRound-clause-owed : goal.returns-in-Err-NoRound-clause-owed
returns-in-Err-NoRound-clause-owed c =
    let why = rw c.in-Err-NoRound.field-0-is at c.in-Err-NoRound.ensures.err in
    (tt, no_round_owed c.args.engine.now c.finish.new.self why.0 why.1)

pub returns-in-Ok-clause-right : goal.returns-in-Ok-clause-right
returns-in-Ok-clause-right c =
    right_finished c.args.names c.args.engine.now c.args.stored.now c.in_ok-answer.answer c.in-Ok.report c.report_of.result c.in_ok-answer.ensures.only c.in-Ok.ensures.answered c.report_of.ensures

pub returns-in-Err-NoRound-clause-right : goal.returns-in-Err-NoRound-clause-right
returns-in-Err-NoRound-clause-right c =
    let why = rw c.in-Err-NoRound.field-0-is at c.in-Err-NoRound.ensures.err in
    λ report new earned shows. absurd (never_none c.args.engine.now why.0 report new earned)

pub returns-in-Err-BadCertificate-clause-right : goal.returns-in-Err-BadCertificate-clause-right
returns-in-Err-BadCertificate-clause-right c =
    let why = rw c.in-Err-BadCertificate.field-0-is at c.in-Err-BadCertificate.ensures.err in
    λ report new earned shows. absurd (never_bad c.args.names c.args.engine.now c.args.stored.now c.in_ok-answer.answer c.in_ok-answer.ensures.only why.0 report new earned shows)

pub returns-in-Ok-clause-none : goal.returns-in-Ok-clause-none
returns-in-Ok-clause-none c = λ none. absurd (open_and_none c.args.engine.now.asked (λ parts. IsReportOn parts (c.args.engine.now.rounds + 1) c.in_ok-answer.answer c.in-Ok.report) none c.in-Ok.ensures.answered)

pub returns-in-Err-BadCertificate-clause-none : goal.returns-in-Err-BadCertificate-clause-none
returns-in-Err-BadCertificate-clause-none c =
    let why = rw c.in-Err-BadCertificate.field-0-is at c.in-Err-BadCertificate.ensures.err in
    λ none. absurd (open_and_none c.args.engine.now.asked (λ parts. IsWrong parts c.in_ok-answer.answer) none why.0)

pub returns-in-Err-BadCertificate-clause-unshown : goal.returns-in-Err-BadCertificate-clause-unshown
returns-in-Err-BadCertificate-clause-unshown c =
    let why = rw c.in-Err-BadCertificate.field-0-is at c.in-Err-BadCertificate.ensures.err in
    unshown_finish c.args.names c.args.stored.now c.args.engine.now.asked c.in_ok-answer.answer c.unshown_by-unshown.result c.in_ok-answer.ensures.shown c.unshown_by-unshown.ensures why.0
