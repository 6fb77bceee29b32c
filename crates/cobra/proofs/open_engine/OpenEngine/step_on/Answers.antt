use Rattle.std.proofs.Common.{subst}
use Rattle.round_state.specs.EngineState.{EngineState}
use Rattle.cobra.specs.Scripts.{Goes}
use Rattle.cobra.proofs.open_engine.OpenEngine.step_on.Goals as goal

pub returns : goal.returns
returns c =
    subst (λ (engine : EngineState). Goes engine c.args.step c.step-said.result c.step-said.new.self) c.self.view_is (record { right = c.step-said.ensures.right; legal = c.step-said.ensures.legal })
