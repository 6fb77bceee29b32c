-- What a live auditor may send for what it takes.
use Rattle.std.specs.Prelude.{◌≡◌, ℕ, List, [], ◌∷◌, ◌++◌}
use Rattle.txn.specs.declared.refusals.Refusal.{Refusal}
use Rattle.txn.specs.declared.refusals.Refusal.TheVariants as refusals
use Rattle.fragment_intake.specs.declared.rules.Item.{Item}
use Rattle.fragment_intake.specs.declared.rules.Item.TheVariants as item
use Rattle.fragment_intake.specs.declared.rules.Parcel.{Parcel}
use Rattle.report_queue.specs.declared.entries.Entry.{Entry}
use Rattle.report_queue.specs.declared.entries.Entry.TheVariants.{Accepted, Refused, Report, Cut, Skipped, End}
use Rattle.settle.specs.declared.cuts.Cut as cuts
use Rattle.round_state.specs.EngineState.{EngineState}
use Rattle.round_state.specs.Legal.{State, Legal}
use Rattle.round_state.specs.Opening.{fresh_state}
use Rattle.round_state.specs.Runs.{Holds}
use Rattle.round_state.specs.declared.reports.Report as reports
use Rattle.round_state.specs.declared.steps.Step.{Step}
use Rattle.round_state.specs.declared.steps.Step.TheVariants as step
use Rattle.round_state.specs.declared.steps.StepReply.TheVariants as reply
use Rattle.live_audit.specs.CoreState.{Search}

-- the item asks for this step
abbrev pub Asks : Item → Step → Type 0
Asks (item.Fragment logged) asked = asked ≡ step.Offer logged
Asks (item.Join logged) asked = asked ≡ step.Join logged
Asks (item.Close session) asked = asked ≡ step.Close session
Asks item.End asked = ⊥

-- that a parcel was accepted, and that it was refused
abbrev pub accepted : Parcel → Entry
accepted parcel = Accepted parcel.collector parcel.place

abbrev pub refused : Parcel → Refusal → Entry
refused parcel refusal = Refused parcel.collector parcel.place refusal

-- From the first state on: the parcels that were taken, the entries that were sent, and the state that they lead to. Each rule adds what one
-- legal step of the engine, or two, take and send. There is no rule for a rebuild; an abandon stands only right behind a finish that found no
-- memory, and a truncate right behind each finish that reported and nowhere else.
pub data Moves (search : Search) (first : State) : List Parcel → List Entry → State → Type 0 where
  -- nothing was taken, and nothing sent
  start : Moves search first [] [] first
  -- an end is accepted, and is no step
  ended : (taken : List Parcel) (sent : List Entry) (at : State) (parcel : Parcel)
      → Moves search first taken sent at → parcel.item ≡ item.End
      → Moves search first (taken ++ parcel ∷ []) (sent ++ accepted parcel ∷ []) at
  -- a fragment is offered or a session closed, and that is done
  done : (taken : List Parcel) (sent : List Entry) (at new : State) (parcel : Parcel) (asked : Step)
      → Moves search first taken sent at → Asks parcel.item asked → Legal at asked reply.Done new
      → Moves search first (taken ++ parcel ∷ []) (sent ++ accepted parcel ∷ []) new
  -- or it is refused
  turned_down : (taken : List Parcel) (sent : List Entry) (at new : State) (parcel : Parcel) (asked : Step) (refusal : Refusal)
      → Moves search first taken sent at → Asks parcel.item asked → Legal at asked (reply.Refused refusal) new
      → Moves search first (taken ++ parcel ∷ []) (sent ++ refused parcel refusal ∷ []) new
  -- a round begins
  begun : (taken : List Parcel) (sent : List Entry) (at new : State)
      → Moves search first taken sent at → Legal at step.Begin reply.Done new
      → Moves search first taken sent new
  -- a round is refused at its begin
  not_begun : (taken : List Parcel) (sent : List Entry) (at new : State) (refusal : Refusal)
      → Moves search first taken sent at → Legal at step.Begin (reply.Refused refusal) new
      → Moves search first taken (sent ++ Skipped refusal ∷ []) new
  -- a round is reported, and a cut applied
  cut : (taken : List Parcel) (sent : List Entry) (at between new : State) (workers : ℕ) (report : reports.Report) (gone : cuts.Cut)
      → Moves search first taken sent at → Legal at (step.Finish search.budget search.depth workers) (reply.Report report) between → Legal between step.Truncate (reply.Cut gone) new
      → Moves search first taken (sent ++ Report report ∷ Cut gone ∷ []) new
  -- a round is reported, and no cut is applied
  reported : (taken : List Parcel) (sent : List Entry) (at between new : State) (workers : ℕ) (report : reports.Report) (refusal : Refusal)
      → Moves search first taken sent at → Legal at (step.Finish search.budget search.depth workers) (reply.Report report) between → Legal between step.Truncate (reply.Refused refusal) new
      → Moves search first taken (sent ++ Report report ∷ []) new
  -- a round finds no memory for its finish, and is abandoned
  abandoned : (taken : List Parcel) (sent : List Entry) (at between new : State) (workers : ℕ)
      → Moves search first taken sent at → Legal at (step.Finish search.budget search.depth workers) (reply.Refused refusals.NoMemory) between → Legal between step.Abandon reply.Done new
      → Moves search first taken (sent ++ Skipped refusals.NoMemory ∷ []) new

-- Whatever histories the engine stood for, these parcels and entries come from legal steps, and the engine after them stands for what the
-- histories have become.
abbrev pub MovesOn : Search → EngineState → List Parcel → List Entry → EngineState → Type 0
MovesOn search old taken sent new = (before : State) → Holds old before → (after : State) × Moves search before taken sent after × Holds new after

-- From a fresh engine: what was taken, and what was sent for it, with an end behind it and nothing else.
pub record Live (most sessions limit : ℕ) (search : Search) (taken : List Parcel) (sent : List Entry) : Type 0 where
  pub front : List Entry
  pub after : State
  pub moves : Moves search (fresh_state most sessions limit) taken front after
  pub end : sent ≡ front ++ End ∷ []
