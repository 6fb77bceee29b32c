use Rattle.std.proofs.Common.{subst}
use Rattle.round_state.specs.declared.steps.StepReply.{StepReply}
use Rattle.cobra.specs.Scripts.{Finishes}
use Rattle.cobra.proofs.LastTold.{report_fits}
use Rattle.cobra.proofs.last_told.LastTold.after.Goals as goal

pub returns-in-Report : goal.returns-in-Report
returns-in-Report c = λ old new fits finishes.
    report_fits old new c.args.self.now c.in-Report.report c.args.effort.search c.args.effort.budget c.args.effort.depth c.args.effort.workers c.told_by.result c.if-not-self.false fits
    (subst (λ (said : StepReply). Finishes old c.args.effort.search c.args.effort.budget c.args.effort.depth c.args.effort.workers said new) c.in-Report.is finishes) c.told_by.ensures.order c.told_by.ensures.search
