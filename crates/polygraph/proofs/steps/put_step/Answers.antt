use Rattle.std.proofs.Common.{◌∙◌, refl, sym}
use Rattle.std.proofs.lemmas.Bool.{false≢true}
use Rattle.clock_choices.specs.BranchState.{last_steps, taken_before}
use Rattle.clock_choices.specs.Steps.{bare}
use Rattle.polygraph.proofs.StepsAbove.{puts_here, skips_here}
use Rattle.polygraph.proofs.steps.put_step.Goals as goal

pub returns-in_ok-put-clause-stands : goal.returns-in_ok-put-clause-stands
returns-in_ok-put-clause-stands c more =
    let branch = c.args.branch.now in
    puts_here c.forced_with_more.ensures c.after_both.ensures branch.parts more (taken_before branch.log branch.levels) (last_steps branch.log branch.levels) c.args.place c.last_step-step.result c.in_ok-cycle_of.field-0 c.args.above.now c.put.new.self c.last_step-step.ensures c.in_ok-cycle_of.ensures c.in_ok-put.ensures.stands

pub returns-else-needs-clause-stands : goal.returns-else-needs-clause-stands
returns-else-needs-clause-stands c more =
    let branch = c.args.branch.now in
    let needs = c.needs.ensures (bare c.last_step-step.result) refl refl in
    skips_here c.after_both.ensures branch.parts more (taken_before branch.log branch.levels) (last_steps branch.log branch.levels) c.args.place c.last_step-step.result c.args.above.now c.last_step-step.ensures (λ has. absurd (false≢true (sym c.if-needs.false ∙ needs.1 has)))
