-- For private clauses: the order that a search told last, and that may be told again.
use Rattle.std.specs.Prelude.{◌≡◌, true, IfSome}
use Rattle.order_check.specs.declared.remainder.Parts.{Parts}
use Rattle.polygraph.specs.declared.solving.Answer.TheVariants as answers
use Rattle.round_state.specs.EngineState.{EngineState}
use Rattle.background_search.specs.Searches.{MayAnswer}
use Rattle.cobra.specs.declared.last_told.LastTold.{LastTold}
use Rattle.cobra.specs.declared.last_told.Told.{Told}

-- the search of that name, budget and depth may tell this order of the parts
abbrev pub IsToldOf : Parts → Told → Type 0
IsToldOf parts told = MayAnswer told.search parts told.budget told.depth (answers.Yes told.order)

-- What is kept is true of the engine: where nothing has come or gone since the open round began, that is about the parts as they are; and
-- the order that was told is told of these.
pub record Fits (engine : EngineState) (last : LastTold) : Type 0 where
  pub still : last.still ≡ true → IfSome engine.asked (λ parts. parts ≡ engine.parts)
  pub told : IfSome last.told (IsToldOf engine.parts)
