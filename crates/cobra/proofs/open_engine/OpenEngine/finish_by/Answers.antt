use Rattle.std.proofs.Common.{subst, sym}
use Rattle.round_state.specs.EngineState.{EngineState}
use Rattle.cobra.specs.Scripts.{Finishes}
use Rattle.cobra.specs.Searches.{MayAnswerOf}
use Rattle.cobra.proofs.open_engine.OpenEngine.finish_by.Goals as goal

pub finish_by-said-requires : goal.finish_by-said-requires
finish_by-said-requires c =
    subst (λ (engine : EngineState). MayAnswerOf c.args.effort.search engine.asked c.args.effort.budget c.args.effort.depth c.args.answer) (sym c.self.view_is) c.requires

pub returns : goal.returns
returns c =
    subst (λ (engine : EngineState). Finishes engine c.args.effort.search c.args.effort.budget c.args.effort.depth c.args.effort.workers c.finish_by-said.result c.finish_by-said.new.engine) c.self.view_is c.finish_by-said.ensures
