use Rattle.std.proofs.Common.{◌≡◌, ◌∙◌, List, map, ap, subst}
use Rattle.txn.specs.declared.choices.ForceStep.{ForceStep}
use Rattle.order_check.specs.Cycles.{IsFullLog}
use Rattle.clock_choices.specs.declared.steps.Forced.{Forced}
use Rattle.clock_choices.specs.SaturatedState.{SaturatedState, sides_logged}
use Rattle.clock_choices.specs.Steps.{bare}
use Rattle.clock_choices.proofs.FullLogs.{full_log}
use Rattle.clock_choices.proofs.saturated.Saturated.log.Goals as goal

pub returns-clause-value : goal.returns-clause-value
returns-clause-value c = ap (λ (steps : List Forced). map bare steps) c.as_slice.ensures.value ∙ ap (λ (s : SaturatedState). s.log) c.self.view_is

pub returns-clause-full : goal.returns-clause-full
returns-clause-full c =
    let s = c.self.inside in
    let held = c.self.invariant.1 in
    subst (λ (state : SaturatedState). (whole : List ForceStep) × (sides_logged whole ≡ sides_logged state.log) × IsFullLog state.parts whole) c.self.view_is
    (full_log s.parts s.graph.gone s.graph.received s.graph.arcs held.over s.steps.items held)
