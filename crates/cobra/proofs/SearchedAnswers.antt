-- What a search of either name may answer is lawful.
use Rattle.std.proofs.Common.{ℕ, Option, Some, None}
use Rattle.std.specs.Prelude.{IfSome}
use Rattle.order_check.specs.declared.remainder.Parts.{Parts}
use Rattle.log_text.specs.declared.searches.Search.{Search}
use Rattle.log_text.specs.declared.searches.Search.TheVariants.{Plain, Guided}
use Rattle.polygraph.specs.Solving.{IsLawful}
use Rattle.polygraph.specs.declared.solving.Answer.{Answer}
use Rattle.cobra.specs.Searches.{MayAnswerOf}

pub lawful_of : (search : Search) (asked : Option Parts) (budget depth : ℕ) (answer : Answer) → MayAnswerOf search asked budget depth answer → IfSome asked (λ parts. IsLawful parts budget depth answer)
lawful_of search None budget depth answer may = tt
lawful_of Plain (Some parts) budget depth answer may = may.0
lawful_of Guided (Some parts) budget depth answer may = may
