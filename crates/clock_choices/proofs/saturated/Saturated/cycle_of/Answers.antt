use Rattle.std.proofs.Common.{◌≡◌, [], List, Some, take, ap, subst}
use Rattle.std.specs.List.{slice_get}
use Rattle.std.proofs.lemmas.Result.{IfOk-weaker}
use Rattle.txn.specs.declared.choices.Arc.{Arc}
use Rattle.txn.specs.declared.choices.ForceStep.{ForceStep}
use Rattle.order_check.specs.Cycles.{IsForced, Sides, sides_after}
use Rattle.clock_choices.specs.declared.steps.Forced.{Forced}
use Rattle.clock_choices.specs.Logging.{IsStepFrom}
use Rattle.clock_choices.specs.Over.{IsOver}
use Rattle.clock_choices.specs.SaturatedState.{SaturatedState}
use Rattle.clock_choices.specs.Steps.{sides_of}
use Rattle.clock_choices.proofs.Cyclings.{cycle_logged, logged_at}
use Rattle.clock_choices.proofs.saturated.Saturated.cycle_of.Goals as goal

pub cycle_of_step-requires : goal.cycle_of_step-requires
cycle_of_step-requires c =
    let s = c.self.inside in
    let held = c.self.invariant.1 in
    let after = logged_at s.parts [] s.graph.gone s.graph.received s.graph.arcs s.steps.items c.args.self.now.log c.args.place c.index-step.result.now (ap (λ (state : SaturatedState). state.log) c.self.view_is) c.requires c.index-step.ensures held.logged in
    (sides_of (take c.args.place s.steps.items), held.over, after.1)

pub returns : goal.returns
returns c =
    let s = c.self.inside in
    let held = c.self.invariant.1 in
    let step : Forced = c.index-step.result.now in
    let place = c.args.place in
    let after = logged_at s.parts [] s.graph.gone s.graph.received s.graph.arcs s.steps.items c.args.self.now.log place step (ap (λ (state : SaturatedState). state.log) c.self.view_is) c.requires c.index-step.ensures held.logged in
    IfOk-weaker c.cycle_of_step.result
    (λ (cycle : List Arc). (taken : Sides) → IsOver s.parts s.graph.gone s.graph.received → IsStepFrom s.parts s.graph.gone s.graph.received s.graph.arcs taken step → IsForced s.parts taken (record { choice = step.choice; side = step.side; cycle = cycle }))
    (λ (cycle : List Arc). (one : ForceStep) → slice_get c.args.self.now.log place ≡ Some one → IsForced c.args.self.now.parts (sides_after [] (take place c.args.self.now.log)) (record one { cycle = cycle }))
    (λ cycle is. subst (λ (state : SaturatedState). (one : ForceStep) → slice_get state.log place ≡ Some one → IsForced state.parts (sides_after [] (take place state.log)) (record one { cycle = cycle })) c.self.view_is
    (cycle_logged s.parts [] s.steps.items place step step cycle after.0 c.index-step.ensures (is (sides_of (take place s.steps.items)) held.over after.1)))
    c.cycle_of_step.ensures
