use Rattle.std.proofs.Common.{◌∙◌, List, ap}
use Rattle.clock_choices.specs.declared.steps.Forced.{Forced}
use Rattle.clock_choices.specs.LeftSteps.{steps_left}
use Rattle.clock_choices.proofs.LeftSteps.{steps_left_push}
use Rattle.clock_choices.proofs.Settled.{take_all}
use Rattle.clock_choices.proofs.cutting.left_steps.Goals as goal

pub loop-step-preserved : goal.loop-step-preserved
loop-step-preserved c =
    let was = c.loop-step.invariant in
    let parts = c.args.parts.now in
    let left = c.args.left.now in
    let arcs = c.args.arcs.now in
    let steps = c.args.steps.now in
    let k = c.loop-step.step-index in
    record {
      found = c.in_ok-push_left.ensures ∙ steps_left_push parts left arcs steps k _ c.count_to-count.result c.loop-step.found.items c.loop-step-test.true c.count_to-count.ensures.seen c.count_to-count.ensures.count was.found;
      count = c.count_to-count.ensures.count;
    }

pub returns : goal.returns
returns c = c.loop-step.invariant.found ∙ ap (λ (steps : List Forced). steps_left c.args.parts.now c.args.left.now c.args.arcs.now steps) (take_all c.args.steps.now c.loop-step.step-index c.loop-step-test.false)
