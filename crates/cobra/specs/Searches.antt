-- What the searches of open rounds answer.
use Rattle.std.specs.Prelude.{ℕ, ⊤, Option, IfSome}
use Rattle.order_check.specs.declared.remainder.Parts.{Parts}
use Rattle.log_text.specs.declared.searches.Search.{Search}
use Rattle.polygraph.specs.declared.solving.Answer.{Answer}
use Rattle.round_state.specs.Steps.{answer_told}
use Rattle.round_state.specs.declared.steps.StepReply.{StepReply}
use Rattle.round_state.specs.declared.steps.StepReply.TheVariants as reply
use Rattle.background_search.specs.Searches.{MayAnswer}

-- what the search of this name may answer for the parts of an open round, if one is open
abbrev pub MayAnswerOf : Search → Option Parts → ℕ → ℕ → Answer → Type 0
MayAnswerOf search asked budget depth answer = IfSome asked (λ parts. MayAnswer search parts budget depth answer)

-- what a report tells is what the search of this name may answer for the parts of the round
abbrev pub IsSearched : Search → Option Parts → ℕ → ℕ → StepReply → Type 0
IsSearched search asked budget depth (reply.Report report) = MayAnswerOf search asked budget depth (answer_told report.certificate)
IsSearched search asked budget depth said = ⊤
