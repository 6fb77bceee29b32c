-- A script's rounds are ended and told.
use Rattle.std.proofs.Common.{◌≡◌, ◌≢◌, ℕ, true, false, Option, refl, sym, subst, inl, inr}
use Rattle.std.specs.Prelude.{IsSome}
use Rattle.std.specs.Prelude as prelude
use Rattle.txn.specs.declared.refusals.Refusal.{Refusal}
use Rattle.txn.specs.declared.refusals.Refusal.TheVariants.{NoRound, NoMemory}
use Rattle.order_check.specs.declared.remainder.Parts.{Parts}
use Rattle.log_text.specs.declared.searches.Search.{Search}
use Rattle.round_state.specs.EngineState.{EngineState}
use Rattle.round_state.specs.declared.steps.Step.TheVariants as step
use Rattle.round_state.specs.declared.steps.StepReply.{StepReply}
use Rattle.round_state.specs.declared.steps.StepReply.TheVariants as reply
use Rattle.cobra.specs.Scripts.{Finishes, Goes, EndsRound, IsRound}

none_or_some : (asked : Option Parts) → IsSome asked → asked ≡ prelude.None → ⊥
none_or_some asked some none = let no : false ≡ true = subst (λ (o : Option Parts). IsSome o) none some in cc

-- what is left of a round whose finish was refused
pub ends_abandoned : (old kept new : EngineState) (search : Search) (budget depth workers : ℕ) (refusal : Refusal) (said : StepReply) → Finishes old search budget depth workers (reply.Refused refusal) kept → Goes kept step.Abandon said new → IsSome old.asked → EndsRound old search budget depth workers (reply.Refused refusal) new
ends_abandoned old kept new search budget depth workers NoMemory reply.Done finish abandon some = (kept, finish.goes, abandon)
ends_abandoned old kept new search budget depth workers NoMemory (reply.Refused NoRound) finish abandon some =
    absurd (none_or_some old.asked some (subst (λ (engine : EngineState). engine.asked ≡ prelude.None) finish.goes.right.1 abandon.right.0))
ends_abandoned old kept new search budget depth workers NoMemory (reply.Refused refusal) finish abandon some = absurd abandon.right.0
ends_abandoned old kept new search budget depth workers NoMemory (reply.Report report) finish abandon some = absurd abandon.right
ends_abandoned old kept new search budget depth workers NoMemory (reply.Cut cut) finish abandon some = absurd abandon.right
ends_abandoned old kept new search budget depth workers NoRound said finish abandon some = absurd (none_or_some old.asked some finish.goes.right.0)
ends_abandoned old kept new search budget depth workers refusal said finish abandon some = absurd finish.goes.right.0

pub ends_finished : (old new : EngineState) (search : Search) (budget depth workers : ℕ) (said : StepReply) → Finishes old search budget depth workers said new → ((refusal : Refusal) → said ≢ reply.Refused refusal) → EndsRound old search budget depth workers said new
ends_finished old new search budget depth workers reply.Done finish not = absurd finish.goes.right
ends_finished old new search budget depth workers (reply.Refused refusal) finish not = absurd (not refusal refl)
ends_finished old new search budget depth workers (reply.Report report) finish not = finish
ends_finished old new search budget depth workers (reply.Cut cut) finish not = absurd finish.goes.right

pub rounds_begun : (old mid new : EngineState) (search : Search) (budget depth workers : ℕ) (said : StepReply) → Goes old step.Begin reply.Done mid → (IsSome mid.asked → EndsRound mid search budget depth workers said new) → IsRound old search budget depth workers said new
rounds_begun old mid new search budget depth workers said begin ends =
    inr (mid, begin, ends (subst (λ (engine : EngineState). IsSome engine.asked) (sym begin.right.1) refl))

pub rounds_refused : (old new : EngineState) (search : Search) (budget depth workers : ℕ) (said : StepReply) → Goes old step.Begin said new → said ≢ reply.Done → IsRound old search budget depth workers said new
rounds_refused old new search budget depth workers reply.Done begin not = absurd (not refl)
rounds_refused old new search budget depth workers (reply.Refused refusal) begin not = inl (refusal, refl, begin)
rounds_refused old new search budget depth workers (reply.Report report) begin not = absurd begin.right
rounds_refused old new search budget depth workers (reply.Cut cut) begin not = absurd begin.right
