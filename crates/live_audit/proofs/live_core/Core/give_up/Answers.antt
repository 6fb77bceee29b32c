use Rattle.std.proofs.Common.{subst}
use Rattle.round_state.specs.Runs.{StepsLegally}
use Rattle.round_state.specs.declared.steps.Step.TheVariants as step
use Rattle.round_state.specs.declared.steps.StepReply.TheVariants as reply
use Rattle.live_audit.specs.CoreState.{CoreState}
use Rattle.live_audit.proofs.live_core.Core.give_up.Goals as goal

pub returns-clause-legal : goal.returns-clause-legal
returns-clause-legal c = subst (λ (s : CoreState). StepsLegally s.engine step.Abandon reply.Done c.give_up.new.engine) c.self.view_is c.give_up.ensures.legal
