-- Want of memory is an answer that each search may give.
use Rattle.std.proofs.Common.{ℕ, refl}
use Rattle.log_text.specs.declared.searches.Search.{Search}
use Rattle.log_text.specs.declared.searches.Search.TheVariants.{Plain, Guided}
use Rattle.polygraph.specs.ProblemState.{ProblemState, IsProblem}
use Rattle.polygraph.specs.declared.solving.Answer.TheVariants as answers
use Rattle.background_search.specs.Searches.{MayAnswer}

pub no_memory_may : (search : Search) (problem : ProblemState) (budget depth : ℕ) → IsProblem problem → MayAnswer search problem.known.parts budget depth answers.NoMemory
no_memory_may Plain problem budget depth is = (tt, (problem, is, refl, tt))
no_memory_may Guided problem budget depth is = tt
