use Rattle.std.proofs.Common.{[], ◌∷◌, subst}
use Rattle.std.specs.Prelude.{IfErr, OnOk}
use Rattle.round_state.specs.Runs.{StepsLegally}
use Rattle.round_state.specs.declared.steps.Step.TheVariants as step
use Rattle.round_state.specs.declared.steps.StepReply.TheVariants as reply
use Rattle.live_audit.specs.CoreState.{CoreState}
use Rattle.live_audit.specs.Live.{MovesOn}
use Rattle.live_audit.proofs.Answering.{begin_moves, begin_legal, begin_skipped}
use Rattle.live_audit.proofs.live_core.Core.begin.Goals as goal

pub returns-clause-moves : goal.returns-clause-moves
returns-clause-moves c = subst (λ (s : CoreState). OnOk c.begin.result (MovesOn s.search s.engine [] [] c.begin.new.engine)) c.self.view_is (begin_moves _ c.self.inside.engine c.begin.new.engine c.begin.result c.begin.ensures)

pub returns-clause-legal : goal.returns-clause-legal
returns-clause-legal c = subst (λ (s : CoreState). OnOk c.begin.result (StepsLegally s.engine step.Begin reply.Done c.begin.new.engine)) c.self.view_is (begin_legal c.self.inside.engine c.begin.new.engine c.begin.result c.begin.ensures)

pub returns-clause-skipped : goal.returns-clause-skipped
returns-clause-skipped c = subst (λ (s : CoreState). IfErr c.begin.result (λ entry. MovesOn s.search s.engine [] (entry ∷ []) c.begin.new.engine)) c.self.view_is (begin_skipped _ c.self.inside.engine c.begin.new.engine c.begin.result c.begin.ensures)
