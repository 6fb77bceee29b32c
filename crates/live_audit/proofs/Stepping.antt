-- Right calls of an engine are legal steps.
use Rattle.std.proofs.Common.{◌≡◌, ℕ, None, subst, refl}
use Rattle.std.specs.Prelude.{Result, Ok, Err, IfErr, OnOk, IsSomeAnd, IsSome}
use Rattle.txn.specs.declared.refusals.Refusal.{Refusal}
use Rattle.txn.specs.declared.refusals.Refusal.TheVariants as refusals
use Rattle.txn.specs.Transactions.{IsWellFormedFragment}
use Rattle.logged_fragments.specs.declared.logged.LoggedFragment.{LoggedFragment}
use Rattle.logged_fragments.specs.Effects.{effects}
use Rattle.order_check.specs.declared.remainder.Parts.{Parts}
use Rattle.order_check.specs.StandsFor.{IsOpenSession}
use Rattle.fragment_intake.specs.declared.rules.Item.TheVariants as item
use Rattle.round_state.specs.EngineState.{EngineState}
use Rattle.round_state.specs.Runs.{StepsLegally}
use Rattle.round_state.specs.Steps.{IsAdmitted, IsOfferRefusal, IsLetIn, IsJoinRefusal, IsCloseRefusal, StepsTo, IsAbandonRefusal, engine_offered, engine_joined, engine_closed, engine_abandoned}
use Rattle.round_state.specs.declared.steps.Step.{Step}
use Rattle.round_state.specs.declared.steps.Step.TheVariants as step
use Rattle.round_state.specs.declared.steps.StepReply.{StepReply}
use Rattle.round_state.specs.declared.steps.StepReply.TheVariants as reply
use Rattle.live_audit.specs.CoreState.{Search}
use Rattle.live_audit.specs.Takes.{TakesIn, Finishes}
use Rattle.live_audit.proofs.Answering.{for_memory, none_or_some}

-- what is right from here on is legal
abbrev pub RightIsLegal : EngineState → Type 0
RightIsLegal old = (asked : Step) (said : StepReply) (new : EngineState) → StepsTo old asked said new → StepsLegally old asked said new

pub offered : (old new : EngineState) (logged : LoggedFragment) (said : Result (Unit {0}) Refusal) → RightIsLegal old → OnOk said (IsWellFormedFragment old.parts.most_sessions logged.fragment × IsAdmitted old.parts (effects logged) × (new ≡ engine_offered old (effects logged))) → IfErr said (λ refusal. IsOfferRefusal old.parts logged refusal × (new ≡ old)) → TakesIn old (item.Fragment logged) said new
offered old new logged (Ok done) legal ok err = (step.Offer logged, refl, legal (step.Offer logged) reply.Done new ok)
offered old new logged (Err refusal) legal ok err = (step.Offer logged, refl, legal (step.Offer logged) (reply.Refused refusal) new err)

pub joined : (old new : EngineState) (logged : LoggedFragment) (said : Result (Unit {0}) Refusal) → RightIsLegal old → OnOk said (IsWellFormedFragment old.parts.most_sessions logged.fragment × (old.asked ≡ None) × IsLetIn old.parts (effects logged) × (new ≡ engine_joined old (effects logged))) → IfErr said (λ refusal. IsJoinRefusal old logged refusal × (new ≡ old)) → TakesIn old (item.Join logged) said new
joined old new logged (Ok done) legal ok err = (step.Join logged, refl, legal (step.Join logged) reply.Done new ok)
joined old new logged (Err refusal) legal ok err = (step.Join logged, refl, legal (step.Join logged) (reply.Refused refusal) new err)

pub closed : (old new : EngineState) (session : ℕ) (said : Result (Unit {0}) Refusal) → RightIsLegal old → OnOk said (IsOpenSession old.parts session × (new ≡ engine_closed old session)) → IfErr said (λ refusal. IsCloseRefusal old.parts session refusal × (new ≡ old)) → TakesIn old (item.Close session) said new
closed old new session (Ok done) legal ok err = (step.Close session, refl, legal (step.Close session) reply.Done new ok)
closed old new session (Err refusal) legal ok err = (step.Close session, refl, legal (step.Close session) (reply.Refused refusal) new err)

pub not_finished : (search : Search) (old new : EngineState) (lawful : Parts → Type 0) (refusal : Refusal) → RightIsLegal old → IsSomeAnd old.asked lawful → StepsTo old (step.Finish search.budget search.depth 1) (reply.Refused refusal) new → Finishes search old None new
not_finished search old new lawful refusal legal some right =
    let why = for_memory old lawful refusal some right.0 in
    (legal (step.Finish search.budget search.depth 1) (reply.Refused refusals.NoMemory) new (subst (λ (r : Refusal). StepsTo old (step.Finish search.budget search.depth 1) (reply.Refused r) new) why right), right.1)

-- an open round is abandoned
pub given_up : (old new : EngineState) (said : Result (Unit {0}) Refusal) → RightIsLegal old → IsSome old.asked → OnOk said (IsSome old.asked × (new ≡ engine_abandoned old)) → IfErr said (λ refusal. IsAbandonRefusal old refusal × (new ≡ old)) → StepsLegally old step.Abandon reply.Done new
given_up old new (Ok done) legal some ok err = legal step.Abandon reply.Done new ok
given_up old new (Err refusals.NoRound) legal some ok err = absurd (none_or_some old.asked some err.0)
given_up old new (Err refusal) legal some ok err = absurd err.0
