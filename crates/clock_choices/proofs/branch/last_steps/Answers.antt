use Rattle.std.proofs.Common.{◌∙◌, sym}
use Rattle.clock_choices.proofs.Stacked.{last_steps_of}
use Rattle.clock_choices.proofs.branch.last_steps.Goals as goal

pub returns-in-Some : goal.returns-in-Some
returns-in-Some c = c.as_slice.ensures.value ∙ sym (last_steps_of c.args.log.now c.args.tops.now c.in-Some.top.now (sym c.in-Some.ensures.value))
