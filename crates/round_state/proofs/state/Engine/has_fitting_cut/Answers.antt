use Rattle.std.proofs.Common.{◌≡◌, Some, subst}
use Rattle.settle.specs.declared.cuts.Cut.{Cut}
use Rattle.round_state.specs.EngineState.{EngineState}
use Rattle.round_state.specs.Kept.{IsFitting}
use Rattle.round_state.proofs.state.Engine.has_fitting_cut.Goals as goal

pub returns : goal.returns
returns c =
    subst (λ (engine : EngineState). (cut : Cut) → engine.held ≡ Some cut → IsFitting engine.parts cut) c.self.view_is
    (λ cut e. c.kept_cuts_fit.ensures c.self.inside.parts cut c.self.invariant.0.good (c.self.invariant.0.fronts.cut cut e))
