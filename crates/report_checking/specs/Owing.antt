-- Which reply is owed to a line of a script, where no search is made: what a report tells is judged by its own certificate.
use Rattle.std.specs.Prelude.{◌≡◌, ◌+◌, ◌⊎◌, ⊤, Bool, true, false, not, Option, Some, None, IsSomeAnd}
use Rattle.txn.specs.declared.refusals.Refusal.{Refusal}
use Rattle.txn.specs.declared.refusals.Refusal.TheVariants.{NoRound, RoundOpen}
use Rattle.order_check.specs.declared.remainder.Parts.{Parts}
use Rattle.polygraph.specs.declared.solving.Answer as solved
use Rattle.log_text.specs.declared.commands.Command.{Command}
use Rattle.log_text.specs.declared.commands.Command.TheVariants.{Offer, Join, Close, Begin, Finish, Round, BeginSearch, Collect, Skip, Truncate, Rebuild, Show, Save, Answer}
use Rattle.log_text.specs.declared.replies.Reply.{Reply}
use Rattle.log_text.specs.declared.replies.Reply.TheVariants as told
use Rattle.log_text.specs.declared.versions.Version.{Version}
use Rattle.round_state.specs.EngineState.{EngineState}
use Rattle.round_state.specs.Legal.{State, Legal, TellsOf}
use Rattle.round_state.specs.Solving.{IsReportOn}
use Rattle.round_state.specs.Steps.{IsFinished, IsHeldAfter}
use Rattle.round_state.specs.declared.reports.Report.{Report}
use Rattle.round_state.specs.declared.steps.Step.{Step}
use Rattle.round_state.specs.declared.steps.Step.TheVariants as step
use Rattle.round_state.specs.declared.steps.StepReply.{StepReply}
use Rattle.round_state.specs.declared.steps.StepReply.TheVariants as reply
use Rattle.cobra.specs.Saving.{saved_told}
use Rattle.cobra.specs.Scripts.{IsBadLine, IsTakenIn, state_told}
use Rattle.cobra.specs.StepReplies.{claim_of, reply_of, report_of}

-- The open round's report, by the engine alone: some answer about its snapshot earns it. An order was seen to explain the snapshot, or a
-- tree to refute it; or the report is spent, which claims nothing.
pub record IsEarned (old : EngineState) (report : Report) (new : EngineState) : Type 0 where
  pub answer : solved.Answer
  pub reported : IsSomeAnd old.asked (λ parts. IsReportOn parts (old.rounds + 1) answer report × IsHeldAfter parts report.kind old.held new.held)
  pub finished : IsFinished old new

-- The report of an open round is owed: it is earned, and it tells of the whole history that had been received when the round began: its
-- kind, where it isn't spent, is the verdict of that.
pub record IsOwedReport (old : State) (report : Report) (new : State) : Type 0 where
  pub earned : IsEarned old.engine report new.engine
  pub tells : TellsOf old.asked report
  pub whole : new.whole ≡ old.whole
  pub asked : new.asked ≡ old.asked

-- what is owed to a finish
abbrev pub OwesFinish : State → Reply → State → Type 0
OwesFinish old answer new =
    ((report : Report) × IsOwedReport old report new × (answer ≡ report_of report))
    ⊎ ((old.engine.asked ≡ None) × (answer ≡ told.No NoRound) × (new ≡ old))

-- What is owed to a round: where its begin is refused, that; else what is owed to its finish.
abbrev pub OwesRound : State → Reply → State → Type 0
OwesRound old answer new =
    ((refusal : Refusal) × Legal old step.Begin (reply.Refused refusal) new × (answer ≡ told.No refusal))
    ⊎ ((begun : State) × Legal old step.Begin reply.Done begun × OwesFinish begun answer new)

-- a step of the engine, told
abbrev pub IsStep : State → Step → Reply → State → Type 0
IsStep old asked answer new = (said : StepReply) × Legal old asked said new × (answer ≡ reply_of said)

-- what is owed to a command that is about an open engine alone, for lines of this version
abbrev pub OwesOpen : Version → State → Command → Reply → State → Type 0
OwesOpen version old (Offer logged) answer new = IsTakenIn version logged old answer new (IsStep old (step.Offer logged) answer new)
OwesOpen version old (Join logged) answer new = IsTakenIn version logged old answer new (IsStep old (step.Join logged) answer new)
OwesOpen version old (Close session) answer new = IsStep old (step.Close session) answer new
OwesOpen version old Begin answer new = IsStep old step.Begin answer new
OwesOpen version old (Finish budget depth workers search) answer new = OwesFinish old answer new
OwesOpen version old (Round budget depth workers search) answer new = OwesRound old answer new
OwesOpen version old (Answer shown) answer new = IsStep old (step.Judge (claim_of shown)) answer new
OwesOpen version old Truncate answer new = IsStep old step.Truncate answer new
OwesOpen version old Rebuild answer new = IsStep old step.Rebuild answer new
OwesOpen version old Show answer new = (answer ≡ state_told old.engine) × (new ≡ old)
OwesOpen version old (Save wanted) answer new = (answer ≡ saved_told old.engine.parts wanted) × (new ≡ old)
OwesOpen version old command answer new = IsBadLine old answer new

-- A search lasts no longer than the round that it was begun for.
abbrev pub searched_after : Bool → Option Parts → Bool
searched_after searched None = false
searched_after searched (Some parts) = searched

-- A search is begun where a round is open and none was; what is told, and whether one was begun then.
abbrev pub BeginsSearch : Option Parts → Bool → Reply → Bool → Type 0
BeginsSearch None searched answer after = (answer ≡ told.No NoRound) × (after ≡ searched)
BeginsSearch (Some parts) true answer after = (answer ≡ told.No RoundOpen) × (after ≡ true)
BeginsSearch (Some parts) false answer after = (answer ≡ told.Done) × (after ≡ true)

-- Where it may be made, a finish is owed, after which no search is under way; else this refusal, and nothing changes.
abbrev pub FinishesWhere : Bool → Refusal → Bool → State → Reply → Bool → State → Type 0
FinishesWhere true refusal searched old answer after new = OwesFinish old answer new × (after ≡ false)
FinishesWhere false refusal searched old answer after new = (answer ≡ told.No refusal) × (new ≡ old) × (after ≡ searched)

-- A search goes on, and nobody waits for it. That may be told at any moment.
abbrev pub GoesOn : Bool → Bool → State → Reply → Bool → State → Type 0
GoesOn waits searched old answer after new = (waits ≡ false) × (searched ≡ true) × (answer ≡ told.Searching) × (new ≡ old) × (after ≡ searched)

-- the command is about the engine alone
abbrev pub IsOfEngine : Command → Type 0
IsOfEngine (BeginSearch budget depth workers search) = ⊥
IsOfEngine (Collect waits) = ⊥
IsOfEngine Skip = ⊥
IsOfEngine (Finish budget depth workers search) = ⊥
IsOfEngine command = ⊤

-- What is owed to a command, where an engine is open, for lines of this version: with whether a search was begun for the open round that isn't
-- collected yet, before and after. What it searches isn't looked at: a report is judged by its certificate.
abbrev pub OwesBeside : Version → Bool → State → Command → Reply → Bool → State → Type 0
OwesBeside version searched old (BeginSearch budget depth workers search) answer after new = BeginsSearch old.engine.asked searched answer after × (new ≡ old)
OwesBeside version searched old (Collect waits) answer after new = GoesOn waits searched old answer after new ⊎ FinishesWhere searched NoRound searched old answer after new
OwesBeside version searched old Skip answer after new = IsStep old step.Abandon answer new × (after ≡ false)
OwesBeside version searched old (Finish budget depth workers search) answer after new = FinishesWhere (not searched) RoundOpen searched old answer after new
OwesBeside version searched old command answer after new = OwesOpen version old command answer new × (after ≡ searched_after searched new.engine.asked)

-- the step isn't a finish
abbrev pub IsPlain : Step → Type 0
IsPlain (step.Finish budget depth workers) = ⊥
IsPlain asked = ⊤
