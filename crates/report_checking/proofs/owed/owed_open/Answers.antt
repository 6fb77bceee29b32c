use Rattle.std.proofs.Common.{subst, sym, ◌∙◌, inr}
use Rattle.std.proofs.lemmas.Result.{IfOk-weaker}
use Rattle.round_state.specs.declared.steps.Claim.{Claim}
use Rattle.round_state.specs.declared.steps.Step.TheVariants as step
use Rattle.report_checking.specs.Reading.{IsToldOf}
use Rattle.report_checking.proofs.RightReports.{right_judged}
use Rattle.report_checking.proofs.OwedReplies.{show_owed, saved_owed, out_of_place}
use Rattle.report_checking.proofs.OtherReplies.{told_alone, taken_alone, judged_alone, finish_alone}
use Rattle.report_checking.specs.Unshown.{EndsWrong}
use Rattle.report_checking.proofs.UnshownReplies.{unshows_told, unshows_taken}
use Rattle.report_checking.proofs.owed.owed_open.Goals as goal

pub returns-in-Offer-clause-owed : goal.returns-in-Offer-clause-owed
returns-in-Offer-clause-owed c = rw c.in-Offer.is c.owed_offer.ensures.owed

pub returns-in-Join-clause-owed : goal.returns-in-Join-clause-owed
returns-in-Join-clause-owed c = rw c.in-Join.is c.owed_join.ensures.owed

pub returns-in-Close-clause-owed : goal.returns-in-Close-clause-owed
returns-in-Close-clause-owed c = rw c.in-Close.is c.owed_step.ensures.owed

pub returns-in-Begin-clause-owed : goal.returns-in-Begin-clause-owed
returns-in-Begin-clause-owed c = rw c.in-Begin.is c.owed_step-in-Begin.ensures.owed

pub returns-in-Finish-clause-owed : goal.returns-in-Finish-clause-owed
returns-in-Finish-clause-owed c = rw c.in-Finish.is c.owed_finish.ensures.owed

pub returns-in-Round-clause-owed : goal.returns-in-Round-clause-owed
returns-in-Round-clause-owed c = rw c.in-Round.is c.owed_round.ensures.owed

pub returns-in-Answer-clause-owed : goal.returns-in-Answer-clause-owed
returns-in-Answer-clause-owed c = rw (c.in-Answer.is, ← c.claim_of.ensures) c.owed_step-in-Answer.ensures.owed

pub returns-in-Truncate-clause-owed : goal.returns-in-Truncate-clause-owed
returns-in-Truncate-clause-owed c = rw c.in-Truncate.is c.owed_step-in-Truncate.ensures.owed

pub returns-in-Rebuild-clause-owed : goal.returns-in-Rebuild-clause-owed
returns-in-Rebuild-clause-owed c = rw c.in-Rebuild.is c.owed_step-in-Rebuild.ensures.owed

pub returns-in-Show-clause-owed : goal.returns-in-Show-clause-owed
returns-in-Show-clause-owed c =
    let is = rw c.engine.ensures at c.in_ok-state_told-in-Show.ensures in
    rw c.in-Show.is (show_owed c.args.engine.now c.in_ok-state_told-in-Show.field-0 is)

pub returns-in-Save-clause-owed : goal.returns-in-Save-clause-owed
returns-in-Save-clause-owed c =
    let is = rw c.engine-in-Save.ensures at c.in_ok-saved_told-in-Save.ensures in
    rw c.in-Save.is (saved_owed c.args.engine.now c.in-Save.wanted c.in_ok-saved_told-in-Save.field-0 is)

pub returns-in-BeginSearch-clause-owed : goal.returns-in-BeginSearch-clause-owed
returns-in-BeginSearch-clause-owed c = rw c.in-BeginSearch.is (tt, out_of_place c.args.engine.now)

pub returns-in-Collect-clause-owed : goal.returns-in-Collect-clause-owed
returns-in-Collect-clause-owed c = rw c.in-Collect.is (tt, out_of_place c.args.engine.now)

pub returns-in-Skip-clause-owed : goal.returns-in-Skip-clause-owed
returns-in-Skip-clause-owed c = rw c.in-Skip.is (tt, out_of_place c.args.engine.now)

pub returns-in-Start-clause-owed : goal.returns-in-Start-clause-owed
returns-in-Start-clause-owed c = rw c.in-Start.is (tt, out_of_place c.args.engine.now)

pub returns-in-OfferTimed-clause-owed : goal.returns-in-OfferTimed-clause-owed
returns-in-OfferTimed-clause-owed c = rw c.in-OfferTimed.is (tt, out_of_place c.args.engine.now)

pub returns-in-Resume-clause-owed : goal.returns-in-Resume-clause-owed
returns-in-Resume-clause-owed c = rw c.in-Resume.is (tt, out_of_place c.args.engine.now)

pub returns-in-Marks-clause-owed : goal.returns-in-Marks-clause-owed
returns-in-Marks-clause-owed c = rw c.in-Marks.is (tt, out_of_place c.args.engine.now)

pub returns-in-MarksBegun-clause-owed : goal.returns-in-MarksBegun-clause-owed
returns-in-MarksBegun-clause-owed c = rw c.in-MarksBegun.is (tt, out_of_place c.args.engine.now)

pub returns-in-Last-clause-owed : goal.returns-in-Last-clause-owed
returns-in-Last-clause-owed c = rw c.in-Last.is (tt, out_of_place c.args.engine.now)

pub returns-clause-owed : goal.returns-clause-owed
returns-clause-owed c = rw c.in-Resumed.is (tt, out_of_place c.args.engine.now)

pub returns-in-Offer-clause-right : goal.returns-in-Offer-clause-right
returns-in-Offer-clause-right c = rw c.in-Offer.is (IfOk-weaker c.owed_offer.result _ _ (λ given owes report new earned shows. absurd earned) c.owed_offer.ensures.owed)

pub returns-in-Join-clause-right : goal.returns-in-Join-clause-right
returns-in-Join-clause-right c = rw c.in-Join.is (IfOk-weaker c.owed_join.result _ _ (λ given owes report new earned shows. absurd earned) c.owed_join.ensures.owed)

pub returns-in-Close-clause-right : goal.returns-in-Close-clause-right
returns-in-Close-clause-right c = rw c.in-Close.is (IfOk-weaker c.owed_step.result _ _ (λ given owes report new earned shows. absurd earned) c.owed_step.ensures.owed)

pub returns-in-Begin-clause-right : goal.returns-in-Begin-clause-right
returns-in-Begin-clause-right c = rw c.in-Begin.is (IfOk-weaker c.owed_step-in-Begin.result _ _ (λ given owes report new earned shows. absurd earned) c.owed_step-in-Begin.ensures.owed)

pub returns-in-Truncate-clause-right : goal.returns-in-Truncate-clause-right
returns-in-Truncate-clause-right c = rw c.in-Truncate.is (IfOk-weaker c.owed_step-in-Truncate.result _ _ (λ given owes report new earned shows. absurd earned) c.owed_step-in-Truncate.ensures.owed)

pub returns-in-Rebuild-clause-right : goal.returns-in-Rebuild-clause-right
returns-in-Rebuild-clause-right c = rw c.in-Rebuild.is (IfOk-weaker c.owed_step-in-Rebuild.result _ _ (λ given owes report new earned shows. absurd earned) c.owed_step-in-Rebuild.ensures.owed)

pub returns-in-Finish-clause-right : goal.returns-in-Finish-clause-right
returns-in-Finish-clause-right c = rw c.in-Finish.is c.owed_finish.ensures.right

pub returns-in-Round-clause-right : goal.returns-in-Round-clause-right
returns-in-Round-clause-right c = rw c.in-Round.is (IfOk-weaker c.owed_round.result _ _ (λ given right report new earned shows. right earned.0 earned.1 report new earned.2 shows) c.owed_round.ensures.right)

pub returns-in-Answer-clause-right : goal.returns-in-Answer-clause-right
returns-in-Answer-clause-right c =
    rw c.in-Answer.is
    (IfOk-weaker c.owed_step-in-Answer.result _ _ (λ given told. right_judged c.args.names c.args.engine.now c.in-Answer.shown c.args.stored.now given (subst (λ (it : Claim). IsToldOf c.args.engine.now (step.Judge it) given) c.claim_of.ensures told)) c.owed_step-in-Answer.ensures.told)

pub returns-in-Show-clause-right : goal.returns-in-Show-clause-right
returns-in-Show-clause-right c = rw c.in-Show.is (λ report new earned shows. absurd earned)

pub returns-in-Save-clause-right : goal.returns-in-Save-clause-right
returns-in-Save-clause-right c = rw c.in-Save.is (λ report new earned shows. absurd earned)

pub returns-in-BeginSearch-clause-right : goal.returns-in-BeginSearch-clause-right
returns-in-BeginSearch-clause-right c = rw c.in-BeginSearch.is (λ report new earned shows. absurd earned)

pub returns-in-Collect-clause-right : goal.returns-in-Collect-clause-right
returns-in-Collect-clause-right c = rw c.in-Collect.is (λ report new earned shows. absurd earned)

pub returns-in-Skip-clause-right : goal.returns-in-Skip-clause-right
returns-in-Skip-clause-right c = rw c.in-Skip.is (λ report new earned shows. absurd earned)

pub returns-in-Start-clause-right : goal.returns-in-Start-clause-right
returns-in-Start-clause-right c = rw c.in-Start.is (λ report new earned shows. absurd earned)

pub returns-in-OfferTimed-clause-right : goal.returns-in-OfferTimed-clause-right
returns-in-OfferTimed-clause-right c = rw c.in-OfferTimed.is (λ report new earned shows. absurd earned)

pub returns-in-Resume-clause-right : goal.returns-in-Resume-clause-right
returns-in-Resume-clause-right c = rw c.in-Resume.is (λ report new earned shows. absurd earned)

pub returns-in-Marks-clause-right : goal.returns-in-Marks-clause-right
returns-in-Marks-clause-right c = rw c.in-Marks.is (λ report new earned shows. absurd earned)

pub returns-in-MarksBegun-clause-right : goal.returns-in-MarksBegun-clause-right
returns-in-MarksBegun-clause-right c = rw c.in-MarksBegun.is (λ report new earned shows. absurd earned)

pub returns-in-Last-clause-right : goal.returns-in-Last-clause-right
returns-in-Last-clause-right c = rw c.in-Last.is (λ report new earned shows. absurd earned)

pub returns-clause-right : goal.returns-clause-right
returns-clause-right c = rw c.in-Resumed.is (λ report new earned shows. absurd earned)

pub returns-in-Offer-clause-alone : goal.returns-in-Offer-clause-alone
returns-in-Offer-clause-alone c = rw c.in-Offer.is (IfOk-weaker c.owed_offer.result _ _ (λ given is. taken_alone c.args.version c.args.engine.now c.in-Offer.logged (step.Offer c.in-Offer.logged) tt given is) c.owed_offer.ensures.told)

pub returns-in-Join-clause-alone : goal.returns-in-Join-clause-alone
returns-in-Join-clause-alone c = rw c.in-Join.is (IfOk-weaker c.owed_join.result _ _ (λ given is. taken_alone c.args.version c.args.engine.now c.in-Join.logged (step.Join c.in-Join.logged) tt given is) c.owed_join.ensures.told)

pub returns-in-Close-clause-alone : goal.returns-in-Close-clause-alone
returns-in-Close-clause-alone c = rw c.in-Close.is (IfOk-weaker c.owed_step.result _ _ (λ given is. told_alone c.args.engine.now (step.Close c.in-Close.session) tt given is) c.owed_step.ensures.told)

pub returns-in-Begin-clause-alone : goal.returns-in-Begin-clause-alone
returns-in-Begin-clause-alone c = rw c.in-Begin.is (IfOk-weaker c.owed_step-in-Begin.result _ _ (λ given is. told_alone c.args.engine.now step.Begin tt given is) c.owed_step-in-Begin.ensures.told)

pub returns-in-Finish-clause-alone : goal.returns-in-Finish-clause-alone
returns-in-Finish-clause-alone c = rw c.in-Finish.is (IfOk-weaker c.owed_finish.result _ _ (λ given none. finish_alone c.args.engine.now given none) c.owed_finish.ensures.none)

pub returns-in-Round-clause-alone : goal.returns-in-Round-clause-alone
returns-in-Round-clause-alone c = rw c.in-Round.is c.owed_round.ensures.refused

pub returns-in-Answer-clause-alone : goal.returns-in-Answer-clause-alone
returns-in-Answer-clause-alone c =
    rw c.in-Answer.is
    (IfOk-weaker c.owed_step-in-Answer.result _ _ (λ given told. judged_alone c.args.version c.args.engine.now c.in-Answer.shown given (subst (λ (it : Claim). IsToldOf c.args.engine.now (step.Judge it) given) c.claim_of.ensures told)) c.owed_step-in-Answer.ensures.told)

pub returns-in-Truncate-clause-alone : goal.returns-in-Truncate-clause-alone
returns-in-Truncate-clause-alone c = rw c.in-Truncate.is (IfOk-weaker c.owed_step-in-Truncate.result _ _ (λ given is. told_alone c.args.engine.now step.Truncate tt given is) c.owed_step-in-Truncate.ensures.told)

pub returns-in-Rebuild-clause-alone : goal.returns-in-Rebuild-clause-alone
returns-in-Rebuild-clause-alone c = rw c.in-Rebuild.is (IfOk-weaker c.owed_step-in-Rebuild.result _ _ (λ given is. told_alone c.args.engine.now step.Rebuild tt given is) c.owed_step-in-Rebuild.ensures.told)

pub returns-in-Show-clause-alone : goal.returns-in-Show-clause-alone
returns-in-Show-clause-alone c =
    let is = rw c.engine.ensures at c.in_ok-state_told-in-Show.ensures in
    rw c.in-Show.is (λ answer told. inr (inr (is ∙ sym told)))

pub returns-in-Save-clause-alone : goal.returns-in-Save-clause-alone
returns-in-Save-clause-alone c =
    let is = rw c.engine-in-Save.ensures at c.in_ok-saved_told-in-Save.ensures in
    rw c.in-Save.is (λ answer told. inr (inr (is ∙ sym told)))

pub returns-in-BeginSearch-clause-alone : goal.returns-in-BeginSearch-clause-alone
returns-in-BeginSearch-clause-alone c = rw c.in-BeginSearch.is (λ answer told. inr (inr (sym told)))

pub returns-in-Collect-clause-alone : goal.returns-in-Collect-clause-alone
returns-in-Collect-clause-alone c = rw c.in-Collect.is (λ answer told. inr (inr (sym told)))

pub returns-in-Skip-clause-alone : goal.returns-in-Skip-clause-alone
returns-in-Skip-clause-alone c = rw c.in-Skip.is (λ answer told. inr (inr (sym told)))

pub returns-in-Start-clause-alone : goal.returns-in-Start-clause-alone
returns-in-Start-clause-alone c = rw c.in-Start.is (λ answer told. inr (inr (sym told)))

pub returns-in-OfferTimed-clause-alone : goal.returns-in-OfferTimed-clause-alone
returns-in-OfferTimed-clause-alone c = rw c.in-OfferTimed.is (λ answer told. inr (inr (sym told)))

pub returns-in-Resume-clause-alone : goal.returns-in-Resume-clause-alone
returns-in-Resume-clause-alone c = rw c.in-Resume.is (λ answer told. inr (inr (sym told)))

pub returns-in-Marks-clause-alone : goal.returns-in-Marks-clause-alone
returns-in-Marks-clause-alone c = rw c.in-Marks.is (λ answer told. inr (inr (sym told)))

pub returns-in-MarksBegun-clause-alone : goal.returns-in-MarksBegun-clause-alone
returns-in-MarksBegun-clause-alone c = rw c.in-MarksBegun.is (λ answer told. inr (inr (sym told)))

pub returns-in-Last-clause-alone : goal.returns-in-Last-clause-alone
returns-in-Last-clause-alone c = rw c.in-Last.is (λ answer told. inr (inr (sym told)))

pub returns-clause-alone : goal.returns-clause-alone
returns-clause-alone c = rw c.in-Resumed.is (λ answer told. inr (inr (sym told)))

pub returns-in-Offer-clause-unshown : goal.returns-in-Offer-clause-unshown
returns-in-Offer-clause-unshown c = IfOk-weaker c.owed_offer.result _ _ (λ given. unshows_taken (EndsWrong c.args.names c.args.engine.now c.args.command c.args.stored.now) c.args.version c.args.engine.now c.in-Offer.logged (step.Offer c.in-Offer.logged) given) c.owed_offer.ensures.told

pub returns-in-Join-clause-unshown : goal.returns-in-Join-clause-unshown
returns-in-Join-clause-unshown c = IfOk-weaker c.owed_join.result _ _ (λ given. unshows_taken (EndsWrong c.args.names c.args.engine.now c.args.command c.args.stored.now) c.args.version c.args.engine.now c.in-Join.logged (step.Join c.in-Join.logged) given) c.owed_join.ensures.told

pub returns-in-Close-clause-unshown : goal.returns-in-Close-clause-unshown
returns-in-Close-clause-unshown c = IfOk-weaker c.owed_step.result _ _ (λ given. unshows_told (EndsWrong c.args.names c.args.engine.now c.args.command c.args.stored.now) c.args.engine.now (step.Close c.in-Close.session) given) c.owed_step.ensures.told

pub returns-in-Begin-clause-unshown : goal.returns-in-Begin-clause-unshown
returns-in-Begin-clause-unshown c = IfOk-weaker c.owed_step-in-Begin.result _ _ (λ given. unshows_told (EndsWrong c.args.names c.args.engine.now c.args.command c.args.stored.now) c.args.engine.now step.Begin given) c.owed_step-in-Begin.ensures.told

pub returns-in-Answer-clause-unshown : goal.returns-in-Answer-clause-unshown
returns-in-Answer-clause-unshown c = IfOk-weaker c.owed_step-in-Answer.result _ _ (λ given. unshows_told (EndsWrong c.args.names c.args.engine.now c.args.command c.args.stored.now) c.args.engine.now (step.Judge c.claim_of.result) given) c.owed_step-in-Answer.ensures.told

pub returns-in-Truncate-clause-unshown : goal.returns-in-Truncate-clause-unshown
returns-in-Truncate-clause-unshown c = IfOk-weaker c.owed_step-in-Truncate.result _ _ (λ given. unshows_told (EndsWrong c.args.names c.args.engine.now c.args.command c.args.stored.now) c.args.engine.now step.Truncate given) c.owed_step-in-Truncate.ensures.told

pub returns-in-Rebuild-clause-unshown : goal.returns-in-Rebuild-clause-unshown
returns-in-Rebuild-clause-unshown c = IfOk-weaker c.owed_step-in-Rebuild.result _ _ (λ given. unshows_told (EndsWrong c.args.names c.args.engine.now c.args.command c.args.stored.now) c.args.engine.now step.Rebuild given) c.owed_step-in-Rebuild.ensures.told

pub returns-in-Finish-clause-unshown : goal.returns-in-Finish-clause-unshown
returns-in-Finish-clause-unshown c = rw c.in-Finish.is c.owed_finish.ensures.unshown

pub returns-in-Round-clause-unshown : goal.returns-in-Round-clause-unshown
returns-in-Round-clause-unshown c = rw c.in-Round.is c.owed_round.ensures.unshown
