-- What single calls of the auditor tell, beside the moves that they make.
use Rattle.std.specs.Prelude.{◌≡◌, ◌+◌, ◌<◌, ◌^◌, ⊤, List, [], ◌∷◌, Option, Some, None}
use Rattle.txn.specs.declared.refusals.Refusal.TheVariants as refusals
use Rattle.fragment_intake.specs.declared.rules.Parcel.{Parcel}
use Rattle.report_queue.specs.declared.entries.Entry.{Entry}
use Rattle.report_queue.specs.declared.entries.Entry.TheVariants.{Accepted, Refused, Report, Cut, Skipped}
use Rattle.round_state.specs.EngineState.{EngineState}
use Rattle.round_state.specs.Legal.{State, TellsOf}
use Rattle.round_state.specs.Runs.{Holds}
use Rattle.round_state.specs.Steps.{IsBeginRefusal}
use Rattle.live_audit.specs.Live.{accepted, refused}

-- the entry tells of this parcel
abbrev pub IsTold : Parcel → Entry → Type 0
IsTold parcel (Accepted collector place) = Accepted collector place ≡ accepted parcel
IsTold parcel (Refused collector place refusal) = Refused collector place refusal ≡ refused parcel refusal
IsTold parcel other = ⊥

-- the entries tell of these parcels, in order, of each once, and of nothing else
abbrev pub AreTold : List Parcel → List Entry → Type 0
AreTold [] [] = ⊤
AreTold (parcel ∷ parcels) (entry ∷ entries) = IsTold parcel entry × AreTold parcels entries
AreTold parcels entries = ⊥

-- A round was refused at its begin.
abbrev pub IsSkipped : EngineState → Entry → Type 0
IsSkipped old (Skipped refusal) = IsBeginRefusal old refusal
IsSkipped old other = ⊥

-- What an open round came to: the report of the next round, which tells of the history that had been received when it began, whatever histories
-- the engine stood for; or that it was abandoned for want of memory.
abbrev pub IsOutcome : EngineState → Entry → EngineState → Type 0
IsOutcome old (Report report) new = (report.round ≡ old.rounds + 1) × (report.round < 2 ^ 48) × (new.rounds ≡ old.rounds + 1) × ((before : State) → Holds old before → TellsOf before.asked report)
IsOutcome old (Skipped refusals.NoMemory) new = new.rounds ≡ old.rounds
IsOutcome old other new = ⊥

-- behind an outcome stands the cut that was applied, if one was
abbrev pub IsFollowUp : Entry → Option Entry → Type 0
IsFollowUp (Report report) (Some (Cut gone)) = ⊤
IsFollowUp outcome None = ⊤
IsFollowUp outcome other = ⊥
