use Rattle.std.proofs.Common.{◌∙◌, Some, sym, ap}
use Rattle.round_state.specs.EngineState.{EngineState}
use Rattle.order_check.specs.declared.remainder.Parts.{Parts}
use Rattle.round_state.specs.declared.steps.Step.TheVariants as step
use Rattle.round_state.specs.declared.steps.StepReply.TheVariants as reply
use Rattle.live_audit.proofs.steps.begin.Goals as goal

pub returns-in-Ok : goal.returns-in-Ok
returns-in-Ok c =
    let ok = c.in-Ok.ensures.ok in (
      c.right_is_legal.ensures step.Begin reply.Done c.begin.new.self (ok.0, ok.2),
      ap (λ (e : EngineState). e.asked) ok.2 ∙ ap (λ (p : Parts). Some p) (sym ok.1),
      ap (λ (e : EngineState). e.rounds) ok.2,
      ok.0.number,
    )

pub returns-in-Err : goal.returns-in-Err
returns-in-Err c = (c.right_is_legal.ensures step.Begin (reply.Refused c.in-Err.refusal) c.begin.new.self c.in-Err.ensures.err, c.in-Err.ensures.err.0, c.in-Err.ensures.err.1)
