-- What an engine of split histories says of the history as it was offered: what an engine says of a whole history, with 'keeps snapshot
-- isolation' in place of 'some order explains'.
use Rattle.std.specs.Prelude.{◌≡◌, ℕ, ◌*◌, ⊤, length, map}
use Rattle.txn.specs.History.{History, session_of}
use Rattle.order_check.specs.declared.remainder.Parts.{Parts}
use Rattle.order_check.specs.Based.{received_count}
use Rattle.order_check.specs.declared.remainder.Kind.{Kind}
use Rattle.order_check.specs.declared.remainder.Kind.TheVariants.{Spent}
use Rattle.round_state.specs.EngineState.{EngineState}
use Rattle.round_state.specs.Legal.{State, whole_after, asked_after}
use Rattle.round_state.specs.Opening.{fresh, fresh_state, no_history}
use Rattle.round_state.specs.Runs.{Holds, StepsLegally}
use Rattle.round_state.specs.Steps.{StepsTo}
use Rattle.round_state.specs.declared.reports.Report.{Report}
use Rattle.round_state.specs.declared.steps.Step.{Step}
use Rattle.round_state.specs.declared.steps.StepReply.{StepReply}
use Rattle.round_state.specs.declared.steps.StepReply.TheVariants as reply
use Rattle.isolation_histories.specs.Snapshot.{IsSnapshotVerdict}
use Rattle.isolation_histories.specs.Split.{split_history, HistoryCanBeSplit}
use Rattle.isolation_scripts.specs.Steps.{split_step, CanBeMade}

-- A kind other than spent is the verdict of the whole history by snapshot isolation.
abbrev pub IsIsolationOf : History → Kind → Type 0
IsIsolationOf whole Spent = ⊤
IsIsolationOf whole kind = IsSnapshotVerdict whole kind

-- A report tells of this whole history: its kind, and of each session twice as many as were received.
pub record TellsIsolationOf (whole : History) (report : Report) : Type 0 where
  pub counts : report.counts ≡ map (λ txns. 2 * length txns) whole
  pub kind : IsIsolationOf whole report.kind

-- a reply that is a report tells of the whole history that had been received when the round began
abbrev pub IsTrueIsolation : State → StepReply → Type 0
IsTrueIsolation old (reply.Report report) = TellsIsolationOf old.asked report
IsTrueIsolation old said = ⊤

-- From the old state, whose histories are as they were offered, this reply to the step is legal, and leads to the new state.
pub record LegalIsolation (old : State) (step : Step) (said : StepReply) (new : State) : Type 0 where
  -- it is the right one to the split step, by the engine alone, and leads to the new one
  pub engine : StepsTo old.engine (split_step step) said new.engine
  pub true_reply : IsTrueIsolation old said
  pub whole : new.whole ≡ whole_after old step said
  pub asked : new.asked ≡ asked_after old step said

-- the state with its histories split
abbrev pub split_state : State → State
split_state state = record { engine = state.engine; whole = split_history state.whole; asked = split_history state.asked }

-- The engine's parts and its snapshot stand for the split histories of the state.
pub record HoldsSplit (engine : EngineState) (state : State) : Type 0 where
  pub holds : Holds engine (split_state state)
  pub whole : HistoryCanBeSplit state.whole
  pub asked : HistoryCanBeSplit state.asked

-- Whatever histories the engine stood for, the reply to the step is legal, and the engine after it stands for what the
-- histories have become.
abbrev pub IsolatesLegally : EngineState → Step → StepReply → EngineState → Type 0
IsolatesLegally old step said new = (before : State) → HoldsSplit old before → (after : State) × LegalIsolation before step said after × HoldsSplit new after

-- Where an engine replies to the split step as engines do, that is legal of the histories as they were offered, however many sessions there
-- may be.
abbrev pub SplitStepsAreLegal : Type 0
SplitStepsAreLegal = (sessions : ℕ) (old new : EngineState) (step : Step) (said : StepReply) → CanBeMade sessions step → StepsTo old (split_step step) said new → StepsLegally old (split_step step) said new → IsolatesLegally old step said new

-- A fresh engine stands for the history in which nothing was received, which is split as it is.
abbrev pub FreshEnginesAreSplit : Type 0
FreshEnginesAreSplit = (most sessions limit : ℕ) → Holds (fresh most sessions limit) (fresh_state most sessions limit) → HoldsSplit (fresh most sessions limit) (fresh_state most sessions limit)

-- A history in which nothing was received is split as it is.
abbrev pub NothingIsSplit : Type 0
NothingIsSplit = (sessions : ℕ) → (split_history (no_history sessions) ≡ no_history sessions) × HistoryCanBeSplit (no_history sessions)

-- The parts have received as many of each session as the history has.
pub record HasReceived (parts : Parts) (history : History) : Type 0 where
  pub sessions : length history ≡ length parts.remain
  pub received : (s : ℕ) → received_count parts s ≡ length (session_of history s)

-- What the split step makes of the split histories is what the step makes of the histories, split, and these can be split.
pub record Follows (before : State) (step : Step) (said : StepReply) : Type 0 where
  pub whole : whole_after (split_state before) (split_step step) said ≡ split_history (whole_after before step said)
  pub asked : asked_after (split_state before) (split_step step) said ≡ split_history (asked_after before step said)
  pub can : HistoryCanBeSplit (whole_after before step said)
  pub can_asked : HistoryCanBeSplit (asked_after before step said)

-- So it is where the engine has received as many halves as there are, and the histories can be split.
abbrev pub SplitStepsFollow : Type 0
SplitStepsFollow =
    (sessions : ℕ) (old new : EngineState) (before : State) (step : Step) (said : StepReply) → CanBeMade sessions step → StepsTo old (split_step step) said new
    → HasReceived old.parts (split_history before.whole) → HistoryCanBeSplit before.whole → HistoryCanBeSplit before.asked → Follows before step said
