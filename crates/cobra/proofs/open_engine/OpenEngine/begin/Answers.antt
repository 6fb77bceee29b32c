use Rattle.std.proofs.Common.{subst}
use Rattle.round_state.specs.EngineState.{EngineState}
use Rattle.round_state.specs.declared.steps.Step.TheVariants as step
use Rattle.round_state.specs.declared.steps.StepReply.TheVariants as reply
use Rattle.cobra.specs.Scripts.{Goes}
use Rattle.cobra.proofs.open_engine.OpenEngine.begin.Goals as goal

pub invariant_of-self : goal.invariant_of-self
invariant_of-self c =
    c.begin.ensures c.self.inside.engine c.step.new.self c.self.invariant c.in-Done.ensures.right

pub returns-in-Done : goal.returns-in-Done
returns-in-Done c =
    subst (λ (engine : EngineState). Goes engine step.Begin reply.Done c.step.new.self) c.self.view_is (record { right = c.in-Done.ensures.right; legal = c.in-Done.ensures.legal })

pub returns-in_default : goal.returns-in_default
returns-in_default c =
    subst (λ (engine : EngineState). Goes engine step.Begin c.step.result c.step.new.self) c.self.view_is (record { right = c.step.ensures.right; legal = c.step.ensures.legal })
