-- The run so far is right and legal. There is a reply to each step, and room for all.
use Rattle.std.proofs.Common.{◌≡◌, ◌≤◌, length, vec_len, vec_capacity}
use Rattle.round_state.specs.Runs.{RunsLegally}
use Rattle.round_state.specs.Steps.{RunsTo}
use Rattle.round_state.proofs.state.Engine.run.Given as goal

abbrev pub invariant-loop-step : goal.invariant-loop-step
invariant-loop-step g l = record {
  right : RunsTo l.fn.self l.yielded l.replies.items l.self;
  legal : RunsLegally l.fn.self l.yielded l.replies.items l.self;
  count : vec_len l.replies ≡ length l.yielded;
  room : vec_len l.fn.steps ≤ vec_capacity l.replies;
}
