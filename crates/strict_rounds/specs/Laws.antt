-- What a report is right of.
use Rattle.std.specs.Prelude.{◌≡◌, ℕ, ◌+◌, Some}
use Rattle.round_state.specs.EngineState.{EngineState}
use Rattle.round_state.specs.Steps.{StepsTo}
use Rattle.round_state.specs.declared.reports.Report.{Report}
use Rattle.round_state.specs.declared.steps.Step.TheVariants.{Finish}
use Rattle.round_state.specs.declared.steps.StepReply.TheVariants as reply
use Rattle.strict_offers.specs.Offers.{AreGoodOffers, OfferedState, strict_parts}
use Rattle.strict_rounds.specs.Reports.{IsStrictReport}

-- Where a finish about the parts of a round is right by the engine, its report is right of what was offered.
abbrev pub RightReportsAreStrict : Type 0
RightReportsAreStrict =
    (state : OfferedState) (old new : EngineState) (budget depth workers : ℕ) (report : Report) → AreGoodOffers state → old.asked ≡ Some (strict_parts state)
    → StepsTo old (Finish budget depth workers) (reply.Report report) new → IsStrictReport state (old.rounds + 1) budget depth report
