use Rattle.std.proofs.Common.{ap}
use Rattle.round_state.specs.EngineState.{EngineState}
use Rattle.round_state.specs.Phases.{begun_in}
use Rattle.round_state.proofs.OpenSnapshots.{open_seen}
use Rattle.round_state.proofs.state.Engine.is_open.Goals as goal

pub returns : goal.returns
returns c = open_seen c.self.inside.parts (begun_in c.self.inside.phase) c.args.self.now.asked c.is_open.result (ap (λ (engine : EngineState). engine.asked) c.self.view_is) c.is_open.ensures
