-- A search beside a script is about the round that is open, for as long as that is.
use Rattle.std.proofs.Common.{◌≡◌, Option, Some, None, sym, ◌∙◌}
use Rattle.std.proofs.lemmas.Option.{none-some}
use Rattle.order_check.specs.declared.remainder.Parts.{Parts}
use Rattle.round_state.specs.declared.steps.Step.TheVariants as step
use Rattle.round_state.specs.declared.steps.StepReply.TheVariants as reply

-- a round that is open stays what it is, or is closed
abbrev pub KeepsRound : Option Parts → Option Parts → Type 0
KeepsRound old new = (one other : Parts) → old ≡ Some one → new ≡ Some other → other ≡ one

closed : (old new : Option Parts) → new ≡ None → KeepsRound old new
closed old new none one other was now = absurd (none-some other (sym none ∙ now))
