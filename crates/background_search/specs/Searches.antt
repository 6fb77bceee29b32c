-- What searches answer by their names.
use Rattle.std.specs.Prelude.{ℕ}
use Rattle.order_check.specs.declared.remainder.Parts.{Parts}
use Rattle.log_text.specs.declared.searches.Search.{Search}
use Rattle.log_text.specs.declared.searches.Search.TheVariants.{Plain, Guided}
use Rattle.polygraph.specs.Solving.{IsLawful, IsPlain}
use Rattle.polygraph.specs.declared.solving.Answer.{Answer}

-- What the search of this name may answer for parts: the plain one what it comes to, whatever the workers; the guided one whatever is lawful.
abbrev pub MayAnswer : Search → Parts → ℕ → ℕ → Answer → Type 0
MayAnswer Plain parts budget depth answer = IsLawful parts budget depth answer × IsPlain parts budget depth answer
MayAnswer Guided parts budget depth answer = IsLawful parts budget depth answer
