-- Which replies to a step are legal, and what they lead to, where whole histories stand beside the engine: what a report says
-- is said of them.
use Rattle.std.specs.Prelude.{◌≡◌, ⊤, List, [], ◌∷◌, length, map}
use Rattle.txn.specs.History.{History}
use Rattle.logged_fragments.specs.Effects.{effects}
use Rattle.order_check.specs.declared.remainder.Kind.{Kind}
use Rattle.order_check.specs.declared.remainder.Kind.TheVariants.{Spent}
use Rattle.order_check.specs.StandsFor.{history_after, with_fragment}
use Rattle.order_check.specs.Whole.{IsVerdictWhole}
use Rattle.round_state.specs.EngineState.{EngineState}
use Rattle.round_state.specs.Steps.{StepsTo, arrival_of}
use Rattle.round_state.specs.declared.reports.Report.{Report}
use Rattle.round_state.specs.declared.steps.Step.{Step}
use Rattle.round_state.specs.declared.steps.Step.TheVariants.{Offer, Join, Begin}
use Rattle.round_state.specs.declared.steps.StepReply.{StepReply}
use Rattle.round_state.specs.declared.steps.StepReply.TheVariants as reply

-- an engine, the whole history that it has received, and the one that it had received when the open round began
pub record State : Type 0 where
  pub engine : EngineState
  pub whole : History
  pub asked : History

-- What a step that was replied to so makes of the whole history that was received: an offer that is done puts what its fragment did
-- at the end, and so does a join, where its session is new in a session more.
abbrev pub whole_after : State → Step → StepReply → History
whole_after old (Offer logged) reply.Done = with_fragment old.whole (effects logged)
whole_after old (Join logged) reply.Done = history_after old.whole (arrival_of (length old.whole) (effects logged))
whole_after old step said = old.whole

-- and of the one of the open round: a begin that is done takes what was received
abbrev pub asked_after : State → Step → StepReply → History
asked_after old Begin reply.Done = old.whole
asked_after old step said = old.asked

-- A kind other than spent is the verdict of the whole history.
abbrev pub IsTrueOf : History → Kind → Type 0
IsTrueOf whole Spent = ⊤
IsTrueOf whole kind = IsVerdictWhole whole kind

-- A report tells of this whole history: its kind, and how many were received of each session.
pub record TellsOf (whole : History) (report : Report) : Type 0 where
  pub counts : report.counts ≡ map length whole
  pub kind : IsTrueOf whole report.kind

-- a reply that is a report tells of the whole history that had been received when the round began
abbrev pub IsTrueReply : State → StepReply → Type 0
IsTrueReply old (reply.Report report) = TellsOf old.asked report
IsTrueReply old said = ⊤

-- From the old state, this reply to the step is legal, and leads to the new state.
pub record Legal (old : State) (step : Step) (said : StepReply) (new : State) : Type 0 where
  -- it is right by the engine alone, and leads to the new one
  pub engine : StepsTo old.engine step said new.engine
  pub true_reply : IsTrueReply old said
  pub whole : new.whole ≡ whole_after old step said
  pub asked : new.asked ≡ asked_after old step said

-- Step after step, each reply is legal.
abbrev pub LegalRun : State → List Step → List StepReply → State → Type 0
LegalRun old [] [] new = new ≡ old
LegalRun old (step ∷ steps) (said ∷ replies) new = (between : State) × Legal old step said between × LegalRun between steps replies new
LegalRun old [] (said ∷ replies) new = ⊥
LegalRun old (step ∷ steps) [] new = ⊥
