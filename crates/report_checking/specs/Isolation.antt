-- Which reply is owed to a line of a script that asks for snapshot isolation: transactions are split, what a report tells is judged by its own
-- certificate, of begins and commits, and is said of the history as it was offered.
use Rattle.std.specs.Prelude.{◌≡◌, ◌⊎◌, Bool, true, false, not, None}
use Rattle.txn.specs.declared.refusals.Refusal.{Refusal}
use Rattle.txn.specs.declared.refusals.Refusal.TheVariants.{NoRound, RoundOpen}
use Rattle.log_text.specs.declared.commands.Command.{Command}
use Rattle.log_text.specs.declared.commands.Command.TheVariants.{Offer, Join, Close, Begin, Finish, Round, BeginSearch, Collect, Skip, Truncate, Rebuild, Show, Save, Answer}
use Rattle.log_text.specs.declared.names.Names.{Names}
use Rattle.log_text.specs.declared.names.Names.TheVariants.{Ids, Events}
use Rattle.log_text.specs.declared.replies.Reply.{Reply}
use Rattle.log_text.specs.declared.replies.Reply.TheVariants as told
use Rattle.log_text.specs.declared.versions.Version.{Version}
use Rattle.log_text.specs.Versions.{most_sessions}
use Rattle.round_state.specs.Legal.{State}
use Rattle.round_state.specs.declared.reports.Report.{Report}
use Rattle.round_state.specs.declared.steps.Step.{Step}
use Rattle.round_state.specs.declared.steps.Step.TheVariants as step
use Rattle.round_state.specs.declared.steps.StepReply.{StepReply}
use Rattle.round_state.specs.declared.steps.StepReply.TheVariants as reply
use Rattle.isolation_histories.specs.Logged.{split_logged}
use Rattle.isolation_scripts.specs.Isolated.{isolated_of}
use Rattle.isolation_scripts.specs.Legal.{TellsIsolationOf, LegalIsolation}
use Rattle.isolation_scripts.specs.Splitting.{CanBeAsked, IsAskedFault, split_wanted}
use Rattle.cobra.specs.Saving.{saved_told}
use Rattle.cobra.specs.Scripts.{IsBadLine, IsTakenIn, state_told}
use Rattle.cobra.specs.StepReplies.{claim_of, reply_of, report_of}
use Rattle.report_checking.specs.Owing.{IsEarned, BeginsSearch, GoesOn, searched_after}

-- The report of an open round is owed: it is earned, and it tells of the whole history that had been received when the round began: its kind,
-- where it isn't spent, is the verdict of that by snapshot isolation.
pub record IsOwedIsolation (old : State) (report : Report) (new : State) : Type 0 where
  pub earned : IsEarned old.engine report new.engine
  pub tells : TellsIsolationOf old.asked report
  pub whole : new.whole ≡ old.whole
  pub asked : new.asked ≡ old.asked

-- a step of the engine, whose transactions are split, told of begins and commits
abbrev pub IsIsolatedStep : State → Step → Reply → State → Type 0
IsIsolatedStep old asked answer new = (said : StepReply) × LegalIsolation old asked said new × (answer ≡ isolated_of (reply_of said))

-- what is owed to a finish
abbrev pub EndsIsolated : State → Reply → State → Type 0
EndsIsolated old answer new =
    ((report : Report) × IsOwedIsolation old report new × (answer ≡ isolated_of (report_of report)))
    ⊎ ((old.engine.asked ≡ None) × (answer ≡ told.No NoRound) × (new ≡ old))

-- what is owed to a round: where its begin is refused, that; else what is owed to its finish
abbrev pub IsIsolatedRound : State → Reply → State → Type 0
IsIsolatedRound old answer new =
    ((refusal : Refusal) × LegalIsolation old step.Begin (reply.Refused refusal) new × (answer ≡ told.No refusal))
    ⊎ ((begun : State) × LegalIsolation old step.Begin reply.Done begun × EndsIsolated begun answer new)

-- Where it may be made, a finish is owed, after which no search is under way; else this refusal, and nothing changes.
abbrev pub EndsWhere : Bool → Refusal → Bool → State → Reply → Bool → State → Type 0
EndsWhere true refusal searched old answer after new = EndsIsolated old answer new × (after ≡ false)
EndsWhere false refusal searched old answer after new = (answer ≡ told.No refusal) × (new ≡ old) × (after ≡ searched)

-- what is owed to a command that is about an open engine alone, for lines of this version
abbrev pub OwesSplit : Version → State → Command → Reply → State → Type 0
OwesSplit version old (Offer logged) answer new = IsTakenIn version (split_logged logged) old answer new (IsIsolatedStep old (step.Offer logged) answer new)
OwesSplit version old (Join logged) answer new = IsTakenIn version (split_logged logged) old answer new (IsIsolatedStep old (step.Join logged) answer new)
OwesSplit version old (Close session) answer new = IsIsolatedStep old (step.Close session) answer new
OwesSplit version old Begin answer new = IsIsolatedStep old step.Begin answer new
OwesSplit version old (Round budget depth workers search) answer new = IsIsolatedRound old answer new
OwesSplit version old (Answer shown) answer new = IsIsolatedStep old (step.Judge (claim_of shown)) answer new
OwesSplit version old Truncate answer new = IsIsolatedStep old step.Truncate answer new
OwesSplit version old Rebuild answer new = IsIsolatedStep old step.Rebuild answer new
OwesSplit version old Show answer new = (answer ≡ isolated_of (state_told old.engine)) × (new ≡ old)
OwesSplit version old (Save wanted) answer new = (answer ≡ isolated_of (saved_told old.engine.parts (split_wanted wanted))) × (new ≡ old)
OwesSplit version old command answer new = IsBadLine old answer new

-- what is owed to a command that may be asked, with whether a search was begun for the open round that isn't collected yet, before and after
abbrev pub OwesAsked : Version → Bool → State → Command → Reply → Bool → State → Type 0
OwesAsked version searched old (BeginSearch budget depth workers search) answer after new = BeginsSearch old.engine.asked searched answer after × (new ≡ old)
OwesAsked version searched old (Collect waits) answer after new = GoesOn waits searched old answer after new ⊎ EndsWhere searched NoRound searched old answer after new
OwesAsked version searched old Skip answer after new = IsIsolatedStep old step.Abandon answer new × (after ≡ false)
OwesAsked version searched old (Finish budget depth workers search) answer after new = EndsWhere (not searched) RoundOpen searched old answer after new
OwesAsked version searched old command answer after new = OwesSplit version old command answer new × (after ≡ searched_after searched new.engine.asked)

-- What is owed to a command, for lines of this version: it is refused for what is wrong with it as it was given, or asked.
abbrev pub OwesIsolated : Version → Bool → State → Command → Reply → Bool → State → Type 0
OwesIsolated version searched old command answer after new =
    ((refusal : Refusal) × IsAskedFault (most_sessions version) command refusal × (answer ≡ told.No refusal) × (new ≡ old) × (after ≡ searched))
    ⊎ (CanBeAsked (most_sessions version) command × OwesAsked version searched old command answer after new)

-- ---- how a script tells of transactions

-- an engine's reply, told by these names
abbrev pub told_by : Names → Reply → Reply
told_by Ids answer = answer
told_by Events answer = isolated_of answer
