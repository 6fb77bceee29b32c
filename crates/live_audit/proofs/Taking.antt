-- A parcel that is taken in makes a move.
use Rattle.std.proofs.Common.{◌≡◌, [], ◌∷◌, sym, subst, refl}
use Rattle.std.specs.Prelude.{Ok, Err}
use Rattle.txn.specs.declared.refusals.Refusal.{Refusal}
use Rattle.fragment_intake.specs.declared.rules.Item.{Item}
use Rattle.fragment_intake.specs.declared.rules.Item.TheVariants as item
use Rattle.fragment_intake.specs.declared.rules.Parcel.{Parcel}
use Rattle.round_state.specs.EngineState.{EngineState}
use Rattle.round_state.specs.Runs.{Holds, StepsLegally}
use Rattle.round_state.specs.declared.steps.Step.{Step}
use Rattle.round_state.specs.declared.steps.StepReply.TheVariants as reply
use Rattle.live_audit.specs.CoreState.{Search}
use Rattle.live_audit.specs.Live.{Asks, MovesOn, accepted, refused, start, ended, done, turned_down}
use Rattle.live_audit.specs.Takes.{TakesIn}

done_moves : (search : Search) (old new : EngineState) (parcel : Parcel) (asked : Step) → Asks parcel.item asked → StepsLegally old asked reply.Done new → MovesOn search old (parcel ∷ []) (accepted parcel ∷ []) new
done_moves search old new parcel asked asks steps before holds =
    let step = steps before holds in
    (step.0, done [] [] before step.0 parcel asked start asks step.1, step.2)

refused_moves : (search : Search) (old new : EngineState) (parcel : Parcel) (asked : Step) (refusal : Refusal) → Asks parcel.item asked → StepsLegally old asked (reply.Refused refusal) new → MovesOn search old (parcel ∷ []) (refused parcel refusal ∷ []) new
refused_moves search old new parcel asked refusal asks steps before holds =
    let step = steps before holds in
    (step.0, turned_down [] [] before step.0 parcel asked refusal start asks step.1, step.2)

ended_moves : (search : Search) (old new : EngineState) (parcel : Parcel) → parcel.item ≡ item.End → new ≡ old → MovesOn search old (parcel ∷ []) (accepted parcel ∷ []) new
ended_moves search old new parcel end same before holds =
    (before, ended [] [] before parcel start end, subst (λ (engine : EngineState). Holds engine before) (sym same) holds)

accepted_as : (search : Search) (old new : EngineState) (parcel : Parcel) (its : Item) → parcel.item ≡ its → TakesIn old its (Ok tt) new → MovesOn search old (parcel ∷ []) (accepted parcel ∷ []) new
accepted_as search old new parcel item.End e taken = ended_moves search old new parcel e taken
accepted_as search old new parcel (item.Fragment fragment) e taken = done_moves search old new parcel taken.0 (subst (λ (i : Item). Asks i taken.0) (sym e) taken.1) taken.2
accepted_as search old new parcel (item.Join fragment) e taken = done_moves search old new parcel taken.0 (subst (λ (i : Item). Asks i taken.0) (sym e) taken.1) taken.2
accepted_as search old new parcel (item.Close session) e taken = done_moves search old new parcel taken.0 (subst (λ (i : Item). Asks i taken.0) (sym e) taken.1) taken.2

refused_as : (search : Search) (old new : EngineState) (parcel : Parcel) (refusal : Refusal) (its : Item) → parcel.item ≡ its → TakesIn old its (Err refusal) new → MovesOn search old (parcel ∷ []) (refused parcel refusal ∷ []) new
refused_as search old new parcel refusal item.End e taken = absurd taken
refused_as search old new parcel refusal (item.Fragment fragment) e taken = refused_moves search old new parcel taken.0 refusal (subst (λ (i : Item). Asks i taken.0) (sym e) taken.1) taken.2
refused_as search old new parcel refusal (item.Join fragment) e taken = refused_moves search old new parcel taken.0 refusal (subst (λ (i : Item). Asks i taken.0) (sym e) taken.1) taken.2
refused_as search old new parcel refusal (item.Close session) e taken = refused_moves search old new parcel taken.0 refusal (subst (λ (i : Item). Asks i taken.0) (sym e) taken.1) taken.2

pub accepted_moves : (search : Search) (old new : EngineState) (parcel : Parcel) → TakesIn old parcel.item (Ok tt) new → MovesOn search old (parcel ∷ []) (accepted parcel ∷ []) new
accepted_moves search old new parcel taken = accepted_as search old new parcel parcel.item refl taken

pub refused_parcel_moves : (search : Search) (old new : EngineState) (parcel : Parcel) (refusal : Refusal) → TakesIn old parcel.item (Err refusal) new → MovesOn search old (parcel ∷ []) (refused parcel refusal ∷ []) new
refused_parcel_moves search old new parcel refusal taken = refused_as search old new parcel refusal parcel.item refl taken
