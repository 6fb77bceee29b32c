use Rattle.std.proofs.Common.{subst}
use Rattle.round_state.specs.EngineState.{EngineState}
use Rattle.round_state.specs.Runs.{StepsLegally}
use Rattle.report_checking.proofs.replayed.Replayed.step.Goals as goal

pub returns-clause-legal : goal.returns-clause-legal
returns-clause-legal c = subst (λ (engine : EngineState). StepsLegally engine c.args.step c.step.result c.step.new.self) c.self.view_is c.step.ensures.legal
