use Rattle.std.proofs.Common.{subst, sym}
use Rattle.round_state.specs.EngineState.{EngineState}
use Rattle.polygraph.specs.declared.solving.Answer.TheVariants as answers
use Rattle.cobra.specs.Scripts.{Finishes}
use Rattle.cobra.specs.Searches.{MayAnswerOf}
use Rattle.cobra.proofs.LastTold.{finish_fits}
use Rattle.cobra.proofs.open_engine.OpenEngine.finish_again.Goals as goal

pub finish_by-requires : goal.finish_by-requires
finish_by-requires c =
    subst (λ (engine : EngineState). MayAnswerOf c.args.effort.search engine.asked c.args.effort.budget c.args.effort.depth (answers.Yes c.args.order)) (sym c.self.view_is) c.requires

pub invariant_of-self : goal.invariant_of-self
invariant_of-self c =
    finish_fits c.self.inside.engine c.finish_by.new.engine c.self.inside.last c.args.effort.budget c.args.effort.depth c.args.effort.workers c.finish_by.result c.self.invariant c.finish_by.ensures.goes.right

pub returns : goal.returns
returns c =
    subst (λ (engine : EngineState). Finishes engine c.args.effort.search c.args.effort.budget c.args.effort.depth c.args.effort.workers c.finish_by.result c.finish_by.new.engine) c.self.view_is c.finish_by.ensures
