use Rattle.std.proofs.Common.{◌≡◌, Some, subst}
use Rattle.order_check.specs.declared.remainder.Parts.{Parts}
use Rattle.order_check.specs.Good.{IsGood}
use Rattle.round_state.specs.EngineState.{EngineState}
use Rattle.round_state.specs.Phases.{begun_in, known_in}
use Rattle.round_state.proofs.OpenSnapshots.{snapshot_good}
use Rattle.round_state.proofs.state.Engine.has_good_snapshot.Goals as goal

pub returns : goal.returns
returns c =
    let e = c.self.inside in
    subst (λ (engine : EngineState). (parts : Parts) → engine.asked ≡ Some parts → IsGood parts) c.self.view_is
    (snapshot_good c.kept_fronts_are_counted.ensures e.parts (begun_in e.phase) (known_in e.phase) c.self.invariant.0.good c.self.invariant.1)
