-- What a call does to the auditor's side, beside its core and its count of what no round has asked about.
use Rattle.std.specs.Prelude.{◌≡◌, ℕ, List, map, length, Result, MatchResult}
use Rattle.txn.specs.declared.refusals.Refusal.{Refusal}
use Rattle.fragment_intake.specs.declared.rules.Parcel.{Parcel}
use Rattle.polygraph.specs.declared.solving.Effort.{Effort}
use Rattle.round_state.specs.EngineState.{EngineState}
use Rattle.round_state.specs.Opening.{fresh_state}
use Rattle.round_state.specs.Runs.{Holds}
use Rattle.live_audit.specs.declared.live.AuditorSide.{AuditorSide}
use Rattle.live_audit.specs.CoreState.{CoreState}
use Rattle.live_audit.specs.Live.{Live}
use Rattle.live_audit.specs.Moments.{HasTaken, IsRoundMade, IsTurn, Turns}
use Rattle.live_audit.specs.Running.{HasComeTo, HasMoved, IsLastCount, IsLastSkipped}
use Rattle.live_audit.specs.Truth.{accepted_history}

-- Legal moves were made, which took and sent what the side has taken and sent since.
abbrev pub HasMovedBy : CoreState → AuditorSide → CoreState → AuditorSide → Type 0
HasMovedBy old before new after = HasMoved old before.pass.1 before.sender.sent new after.pass.1 after.sender.sent

-- Some parcels were taken since and no round was told of, as `HasTaken` has it.
abbrev pub HasTakenBy : ℕ → AuditorSide → ℕ → AuditorSide → Type 0
HasTakenBy unasked before unasked_now after = HasTaken unasked before.pass.1 before.sender.sent unasked_now after.pass.1 after.sender.sent

-- the desk, the ring and the word are the same
abbrev pub HasSamePlaces : AuditorSide → AuditorSide → Type 0
HasSamePlaces before after = (after.pass.0 ≡ before.pass.0) × (after.sender.ring ≡ before.sender.ring) × (after.seat.word ≡ before.seat.word)

-- of however many sessions, and by whatever bounds: what holds of them where the core has come to this by what the side took and sent
abbrev pub Wherever : CoreState → AuditorSide → (ℕ → Type 0) → Type 0
Wherever core side holds = (most sessions limit : ℕ) → HasComeTo most sessions limit core side.pass.1 side.sender.sent → holds sessions

-- the same of a fresh engine
abbrev pub FromFresh : EngineState → (ℕ → ℕ → ℕ → Type 0) → Type 0
FromFresh engine holds = (most sessions limit : ℕ) → Holds engine (fresh_state most sessions limit) → holds most sessions limit

-- how many transactions of each session had been accepted by what the side took and sent
abbrev pub counts_at : ℕ → AuditorSide → List ℕ
counts_at sessions side = map length (accepted_history sessions side.pass.1 side.sender.sent)

-- the last round's report counts all that was accepted; or that round was refused for this
abbrev pub IsLastOf : ℕ → AuditorSide → Result (Unit {0}) Refusal → Type 0
IsLastOf sessions side result = MatchResult result (λ _. IsLastCount (counts_at sessions side) side.sender.sent) (λ refusal. IsLastSkipped refusal side.sender.sent)

-- What the side took and sent is what a live auditor may, from a fresh engine on, where each search is given this.
abbrev pub IsLiveBy : Effort → ℕ → ℕ → ℕ → AuditorSide → Type 0
IsLiveBy effort most sessions limit side = Live most sessions limit (record { budget = effort.budget; depth = effort.depth }) side.pass.1 side.sender.sent
