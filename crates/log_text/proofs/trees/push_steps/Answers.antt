use Rattle.std.proofs.Common.{[], ◌∷◌, subst}
use Rattle.txn.specs.declared.choices.ForceStep.{ForceStep}
use Rattle.log_text.specs.Saved.{GainsData}
use Rattle.log_text.specs.Told.{step_data}
use Rattle.log_text.proofs.GainedData.{gains_more}
use Rattle.log_text.proofs.trees.push_steps.Goals as goal

pub loop-step-preserved : goal.loop-step-preserved
loop-step-preserved c =
    gains_more (step_data c.args.names) _ c.loop-step.items.items c.push_step.new.items.items c.args.steps.now c.loop-step.step-index c.step-item.result c.loop-step.invariant c.loop-step-test.true
    (subst (λ (step : ForceStep). GainsData c.loop-step.items.items c.push_step.new.items.items (step_data c.args.names step ∷ [])) c.step-item.is c.in_ok-push_step.ensures)
