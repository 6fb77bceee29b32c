-- What rounds count.
use Rattle.std.proofs.Common.{◌≡◌, ℕ, ◌⊎◌, List, [], ◌∷◌, ◌++◌, Option, Some, None, length, refl, sym, ap, ◌∙◌, subst, inl}
use Rattle.std.specs.Prelude.{map}
use Rattle.std.specs.Option.{option_to_list}
use Rattle.txn.specs.History.{History}
use Rattle.txn.specs.declared.refusals.Refusal.{Refusal}
use Rattle.txn.specs.declared.refusals.Refusal.TheVariants as refusals
use Rattle.fragment_intake.specs.declared.rules.Parcel.{Parcel}
use Rattle.report_queue.specs.declared.entries.Entry.{Entry}
use Rattle.report_queue.specs.declared.entries.Entry.TheVariants.{Report, Cut, Skipped}
use Rattle.round_state.specs.EngineState.{EngineState}
use Rattle.round_state.specs.Legal.{State}
use Rattle.round_state.specs.Opening.{no_history, fresh_state}
use Rattle.round_state.specs.Runs.{Holds, StepsLegally}
use Rattle.round_state.specs.declared.steps.Step.TheVariants as step
use Rattle.round_state.specs.declared.steps.StepReply.TheVariants as reply
use Rattle.live_audit.specs.CoreState.{Search, CoreState}
use Rattle.live_audit.specs.Live.{Moves, start}
use Rattle.live_audit.specs.Moments.{accepted_counts, IsOutcomeOf}
use Rattle.live_audit.specs.Running.{HasComeTo, HasMoved, IsRoundTold}
use Rattle.live_audit.specs.Told.{IsSkipped, IsOutcome, IsFollowUp}
use Rattle.live_audit.proofs.Finishing.{along_both}
use Rattle.live_audit.proofs.Fronts.{front_of_itself}
use Rattle.live_audit.proofs.Joining.{moves_join}
use Rattle.live_audit.proofs.Rounds.{why_skipped}
use Rattle.live_audit.proofs.Sound.{sound}

-- A fresh engine has come from nothing.
pub come_fresh : (most sessions limit : ℕ) (core : CoreState) (taken : List Parcel) (sent : List Entry) → taken ≡ [] → sent ≡ [] → Holds core.engine (fresh_state most sessions limit) → HasComeTo most sessions limit core taken sent
come_fresh most sessions limit core taken sent none_taken none_sent holds =
    let fresh = fresh_state most sessions limit in
    (fresh, along_both core.search fresh fresh [] taken [] sent none_taken none_sent start, holds)

-- What moves come to goes on from there.
pub come_on : (most sessions limit : ℕ) (old new : CoreState) (taken taken_now : List Parcel) (sent sent_now : List Entry) → HasMoved old taken sent new taken_now sent_now → HasComeTo most sessions limit old taken sent → HasComeTo most sessions limit new taken_now sent_now
come_on most sessions limit old new taken taken_now sent sent_now moved come =
    let fresh = fresh_state most sessions limit in
    let run = moved.moves come.0 come.2 in
    let joined = moves_join old.search fresh come.0 run.0 taken moved.parcels sent moved.entries come.1 run.1 in
    let whole = along_both old.search fresh run.0 (taken ++ moved.parcels) taken_now (sent ++ moved.entries) sent_now moved.taken_is moved.sent_is joined in
    (run.0, subst (λ (search : Search). Moves search fresh taken_now sent_now run.0) (sym moved.search) whole, run.2)

-- and what was received is what was accepted
received : (most sessions limit : ℕ) (core : CoreState) (taken : List Parcel) (sent : List Entry) → (come : HasComeTo most sessions limit core taken sent) → map length come.0.whole ≡ accepted_counts sessions taken sent
received most sessions limit core taken sent come =
    ap (λ (history : History). map length history) (sound core.search (fresh_state most sessions limit) taken sent come.0 (front_of_itself (no_history sessions)) come.1).whole

-- A round that began asks about what had been received then, whatever was taken since.
still_asked : (old begun then : CoreState) (taken taken_now : List Parcel) (sent sent_now : List Entry) → StepsLegally old.engine step.Begin reply.Done begun.engine → HasMoved begun taken sent then taken_now sent_now → then.engine.asked ≡ begun.engine.asked → (before : State) → Holds old.engine before → (after : State) × Holds then.engine after × (after.asked ≡ before.whole)
still_asked old begun then taken taken_now sent sent_now begins moved same before holds =
    let first = begins before holds in
    let second = moved.moves first.0 first.2 in (
      record { engine = then.engine; whole = second.0.whole; asked = first.0.asked },
      record { same = refl; parts = second.2.parts; asked = λ parts is. first.2.asked parts (sym same ∙ is) },
      first.1.asked,
    )

outcome_by : (counts : List ℕ) (old new : EngineState) (outcome : Entry) (more : Option Entry) (state : State) → Holds old state → map length state.asked ≡ counts → IsOutcome old outcome new → IsFollowUp outcome more → IsOutcomeOf counts (outcome ∷ option_to_list more)
outcome_by counts old new (Report report) None state holds is told follows = (told.3 state holds).counts ∙ is
outcome_by counts old new (Report report) (Some (Cut gone)) state holds is told follows = (told.3 state holds).counts ∙ is
outcome_by counts old new (Report report) (Some entry) state holds is told follows = absurd follows
outcome_by counts old new (Skipped refusals.NoMemory) None state holds is told follows = inl refl
outcome_by counts old new (Skipped refusals.NoMemory) (Some entry) state holds is told follows = absurd follows
outcome_by counts old new outcome more state holds is told follows = absurd told

-- What it comes to counts that.
pub outcome_counts : (most sessions limit : ℕ) (old begun then new : CoreState) (taken taken_now : List Parcel) (sent sent_now : List Entry) (outcome : Entry) (more : Option Entry) → StepsLegally old.engine step.Begin reply.Done begun.engine → HasMoved begun taken sent then taken_now sent_now → then.engine.asked ≡ begun.engine.asked → IsOutcome then.engine outcome new.engine → IsFollowUp outcome more → HasComeTo most sessions limit old taken sent → IsOutcomeOf (accepted_counts sessions taken sent) (outcome ∷ option_to_list more)
outcome_counts most sessions limit old begun then new taken taken_now sent sent_now outcome more begins moved same told follows come =
    let still = still_asked old begun then taken taken_now sent sent_now begins moved same come.0 come.2 in
    outcome_by (accepted_counts sessions taken sent) then.engine new.engine outcome more still.0 still.1 (ap (λ (history : History). map length history) still.2 ∙ received most sessions limit old taken sent come) told follows

-- A round that didn't begin was skipped.
pub skipped_counts : (counts : List ℕ) (old : EngineState) (entry : Entry) → old.asked ≡ None → IsSkipped old entry → IsOutcomeOf counts (entry ∷ [])
skipped_counts counts old (Skipped refusal) closed told = why_skipped old refusal closed told
skipped_counts counts old entry closed told = absurd told

round_by : (counts : List ℕ) (old new : CoreState) (outcome : Entry) (more : Option Entry) (state : State) → Holds old.engine state → map length state.whole ≡ counts → IsRoundTold old outcome more new → IsFollowUp outcome more → IsOutcomeOf counts (outcome ∷ option_to_list more)
round_by counts old new (Report report) None state holds is told follows = (told.3 state holds).3 ∙ is
round_by counts old new (Report report) (Some (Cut gone)) state holds is told follows = (told.3 state holds).3 ∙ is
round_by counts old new (Report report) (Some entry) state holds is told follows = absurd follows
round_by counts old new (Skipped refusal) None state holds is told follows = told.2
round_by counts old new (Skipped refusal) (Some entry) state holds is told follows = absurd follows
round_by counts old new outcome more state holds is told follows = absurd told

-- A round that was made at once counts what had been received.
pub round_counts : (most sessions limit : ℕ) (old new : CoreState) (taken : List Parcel) (sent : List Entry) (outcome : Entry) (more : Option Entry) → IsRoundTold old outcome more new → IsFollowUp outcome more → HasComeTo most sessions limit old taken sent → IsOutcomeOf (accepted_counts sessions taken sent) (outcome ∷ option_to_list more)
round_counts most sessions limit old new taken sent outcome more told follows come =
    round_by (accepted_counts sessions taken sent) old new outcome more come.0 come.2 (received most sessions limit old taken sent come) told follows
