use Rattle.std.proofs.Common.{ℕ, ap, subst, ◌∙◌, inr}
use Rattle.round_state.specs.EngineState.{EngineState, engine_over}
use Rattle.round_state.specs.declared.reports.Report.{Report}
use Rattle.round_state.specs.declared.steps.StepReply.{StepReply}
use Rattle.strict_offers.specs.Offers.{OfferedState, strict_parts}
use Rattle.cobra.specs.Scripts.{IsRound}
use Rattle.cobra.specs.StepReplies.{report_of}
use Rattle.cobra.proofs.strict.answer_round.Goals as goal

pub returns-in-Report : goal.returns-in-Report
returns-in-Report g c =
    let made =
    subst (λ (said : StepReply). IsRound (engine_over (strict_parts c.args.offered.now)) c.args.effort.search c.args.effort.budget c.args.effort.depth c.args.effort.workers said c.make_round.new.engine) c.in-Report.is
    (subst (λ (engine : EngineState). IsRound engine c.args.effort.search c.args.effort.budget c.args.effort.depth c.args.effort.workers c.make_round.result c.make_round.new.engine) c.in-Ok.ensures c.make_round.ensures) in
    let number = c.finish_round-round.ensures.number ∙ ap (λ (state : OfferedState). state.rounds) c.finish_round-round.ensures.counted in
    inr (
      c.in-Report.report,
      c.make_round.new.engine,
      made,
      c.in_default.ensures.ok,
      c.report_of.ensures ∙ ap report_of (c.numbered.ensures ∙ ap (λ (n : ℕ). record c.in-Report.report { round = n }) number),
      c.finish_round-round.ensures.counted,
    )
