use Rattle.std.proofs.Common.{ap}
use Rattle.round_state.specs.EngineState.{EngineState}
use Rattle.round_state.proofs.OpenSnapshots.{problem_seen}
use Rattle.round_state.proofs.state.Engine.problem.Goals as goal

pub returns : goal.returns
returns c =
    let e = c.self.inside in
    problem_seen c.kept_fronts_are_counted.ensures (λ one. one.now) e.parts e.phase c.args.self.now.asked c.problem.result c.self.invariant.0.good c.self.invariant.1 (ap (λ (engine : EngineState). engine.asked) c.self.view_is) c.problem.ensures
