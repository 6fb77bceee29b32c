-- The main theorem of scripts: each report in an output is true of everything that the script's lines had offered and that was answered ok
-- before the report's round began.
use Rattle.std.specs.Prelude.{◌≡◌, ◌⊎◌, ◌↔◌, ⊤, Bool, true, List, [], ◌∷◌, ◌++◌, map, length, Contains, Option, Some, None, IfSome, option_map, ℕ}
use Rattle.std.specs.List.{concat}
use Rattle.txn.specs.declared.transactions.TxnId.{TxnId}
use Rattle.txn.specs.History.{History}
use Rattle.logged_fragments.specs.Effects.{effects}
use Rattle.order_check.specs.declared.remainder.Kind.TheVariants as kinds
use Rattle.order_check.specs.declared.remainder.Parts.{Parts}
use Rattle.order_check.specs.Cutting.{CanBeApplied}
use Rattle.order_check.specs.Settled.{IsCutOf}
use Rattle.order_check.specs.StandsFor.{StandsFor, history_after, with_fragment}
use Rattle.order_check.specs.Whole.{ExplainsWhole}
use Rattle.log_text.specs.declared.commands.Command.{Command}
use Rattle.log_text.specs.declared.commands.Command.TheVariants.{Start, Offer, Join, Begin, Round, Resumed}
use Rattle.log_text.specs.declared.names.Names.TheVariants.{Ids, Events}
use Rattle.log_text.specs.declared.replies.Reply.{Reply}
use Rattle.log_text.specs.declared.replies.Reply.TheVariants as told
use Rattle.log_text.specs.Replies.{line_of}
use Rattle.log_text.specs.declared.versions.Opening.TheVariants.{Ordered, Isolated}
use Rattle.log_text.specs.declared.versions.Promise.TheVariants.{Resumable}
use Rattle.round_state.specs.EngineState.{EngineState}
use Rattle.round_state.specs.Legal.{State, IsTrueOf}
use Rattle.round_state.specs.Opening.{no_history}
use Rattle.round_state.specs.Runs.{Holds}
use Rattle.round_state.specs.Steps.{arrival_of}
use Rattle.settle.specs.declared.cuts.Cut.{Cut}
use Rattle.gone_orders.specs.Behind.{RemainsBehind}
use Rattle.isolation_histories.specs.Halves.{commit_half, event_at}
use Rattle.isolation_histories.specs.Split.{split_history, HistoryCanBeSplit}
use Rattle.isolation_rests.specs.Behind.{KeepsBehind}
use Rattle.isolation_scripts.specs.Legal.{HoldsSplit, IsIsolationOf}
use Rattle.whole_orders.specs.Isolated.{EndsSnapshotOrder}
use Rattle.whole_orders.specs.Left.{EndsOrder, IsLeftOf}
use Rattle.engine_pasts.specs.Laws.{ToldBehind}
use Rattle.cobra.specs.HandOver.{handed_parts}
use Rattle.cobra.specs.Outputs.{Asks, IsOutputOf, names_at}
use Rattle.cobra.specs.Scripts.{Answers, IsBadLine}
use Rattle.cobra.specs.declared.stages.Stage.{Stage}
use Rattle.cobra.specs.declared.stages.Stage.TheVariants as stage

-- The whole history with which a script that resumes another begins; whether the parts that are handed over are known to be what is left of it, so
-- that each order of theirs is the end of one of the whole; and, where one is known, the order of what is gone behind which they remain. That they
-- stand for it tells of verdicts alone.
pub record Origin : Type 0 where
  pub whole : History
  pub left : Bool
  pub past : Option (List TxnId)

-- What a script's lines had offered and what was answered ok: all of it, and what it was when the open round began; whether what is kept is known to
-- be what is left of it; and the order of what is gone, where one is known. Both are known where the script doesn't resume another. Where
-- transactions are split, what is gone are halves, each of which stands for a begin or a commit (event_at).
pub record Accepted : Type 0 where
  pub whole : History
  pub asked : History
  pub left : Bool
  pub past : Option (List TxnId)

-- Of an open engine: an offer that is answered ok puts what its fragment did at the end of its session; so does a join, where its session is
-- new in a session more; a begin that is answered ok takes all of it.
abbrev pub accepted_more : Accepted → Command → Reply → Accepted
accepted_more old (Offer logged) told.Done = record old { whole = with_fragment old.whole (effects logged) }
accepted_more old (Join logged) told.Done = record old { whole = history_after old.whole (arrival_of (length old.whole) (effects logged)) }
accepted_more old Begin told.Done = record old { asked = old.whole }
accepted_more old command answer = old

-- behind what is gone these are gone, too, in this order
abbrev pub moved : Accepted → List TxnId → Accepted
moved old ahead = record old { past = option_map (λ gone. gone ++ ahead) old.past }

-- where nothing was accepted, and nothing is gone
abbrev pub nothing_accepted : ℕ → Accepted
nothing_accepted sessions = record { whole = no_history sessions; asked = no_history sessions; left = true; past = Some [] }

-- The same of a script: nothing was accepted where one is opened, and nothing is gone. One that resumes another begins with the whole history of that.
abbrev pub accepted_after : Origin → Option Accepted → Command → Reply → Option Accepted
accepted_after origin None (Start sessions limit (Resumable opening)) told.Done = Some (nothing_accepted sessions)
accepted_after origin None Resumed told.Done = Some (record { whole = origin.whole; asked = origin.whole; left = origin.left; past = origin.past })
accepted_after origin None command answer = None
accepted_after origin (Some old) command answer = Some (accepted_more old command answer)

-- What the report that a command is answered tells of: a round begins with the line itself, and the others end one that is open.
abbrev pub reported_on : Accepted → Command → History
reported_on accepted (Round budget depth workers search) = accepted.whole
reported_on accepted command = accepted.asked

-- A reply that is a report is true of a history, by serializability: it counts the transactions of each session, and its kind, where it isn't spent, is
-- the verdict of the whole: by some order. An order that it shows is the end of one that explains the whole history, where what is kept is what is left
-- of it; and put behind what is gone, where the order of that is known, it explains the whole history. No such reply shows begins and commits.
abbrev pub TellsTrueOf : Bool → Option (List TxnId) → History → Reply → Type 0
TellsTrueOf left past history (told.Order Ids round kind counts order) = (counts ≡ map length history) × IsTrueOf history kind × (left ≡ true → EndsOrder history order) × IfSome past (λ gone. ExplainsWhole history (gone ++ order))
TellsTrueOf left past history (told.Violated Ids round counts tree) = (counts ≡ map length history) × IsTrueOf history kinds.Violated
TellsTrueOf left past history (told.Spent round counts) = counts ≡ map length history
TellsTrueOf left past history (told.Order Events round kind counts order) = ⊥
TellsTrueOf left past history (told.Violated Events round counts tree) = ⊥
TellsTrueOf left past history other = ⊤

-- The same by snapshot isolation, of begins and commits: the verdict is by an order of these that is snapshot isolation, and so is what is said of the
-- one that is shown. No such reply shows an order of transactions.
abbrev pub TellsIsolation : Bool → Option (List TxnId) → History → Reply → Type 0
TellsIsolation left past history (told.Order Events round kind counts order) =
    (counts ≡ map length history) × IsIsolationOf history kind × (left ≡ true → EndsSnapshotOrder history (map event_at order))
    × IfSome past (λ gone. KeepsBehind history (map event_at gone) (map event_at order))
TellsIsolation left past history (told.Violated Events round counts tree) = (counts ≡ map length history) × IsIsolationOf history kinds.Violated
TellsIsolation left past history (told.Spent round counts) = counts ≡ map length history
TellsIsolation left past history (told.Order Ids round kind counts order) = ⊥
TellsIsolation left past history (told.Violated Ids round counts tree) = ⊥
TellsIsolation left past history other = ⊤

-- by the promise that the script asks for
abbrev pub TellsBy : Stage → Bool → Option (List TxnId) → History → Reply → Type 0
TellsBy (stage.Open audit (Isolated version)) left past history answer = TellsIsolation left past history answer
TellsBy other left past history answer = TellsTrueOf left past history answer

-- an engine beside all that was accepted, and what had been accepted when the open round began
abbrev pub state_of : EngineState → Accepted → State
state_of engine accepted = record { engine = engine; whole = accepted.whole; asked = accepted.asked }

-- What the engine of a script keeps stands for all that was accepted: whatever may still come, the verdicts agree (StandsFor). So does the open round's
-- snapshot for what had been accepted when the round began. Where transactions are split, their halves do.
abbrev pub StandsForAccepted : Stage → Accepted → Type 0
StandsForAccepted (stage.Open audit (Ordered version)) accepted = Holds audit.engine (state_of audit.engine accepted)
StandsForAccepted (stage.Open audit (Isolated version)) accepted = HoldsSplit audit.engine (state_of audit.engine accepted)
StandsForAccepted other accepted = ⊥

-- A cut takes out what comes next of a whole history behind what is gone: it can be made of these parts, and what it leaves stands for the history, and
-- remains behind what is gone and what the cut takes out, in some order.
abbrev pub TakesNext : List TxnId → Parts → History → Cut → Type 0
TakesNext gone parts whole cut =
    CanBeApplied parts cut.gone cut.last
    × ((new : Parts) → IsCutOf parts new cut.gone cut.last → StandsFor new whole × (ahead : List TxnId) × ((id : TxnId) → Contains ahead id ↔ Contains cut.gone id) × RemainsBehind (gone ++ ahead) new whole)

-- What an engine keeps remains of a whole history, behind what is gone, in this order. So does its snapshot, of what had been received when the round
-- began. The cut that it holds takes out what comes next.
pub record KeepsRest (gone : List TxnId) (engine : EngineState) (whole begun : History) : Type 0 where
  pub parts : RemainsBehind gone engine.parts whole
  pub asked : (parts : Parts) → engine.asked ≡ Some parts → RemainsBehind gone parts begun
  pub held : (cut : Cut) → engine.held ≡ Some cut → TakesNext gone engine.parts whole cut

-- Where transactions are split: each of those accepted can be; the halves that an engine keeps remain of theirs, behind the halves that are gone, in
-- this order; and they tell of the transactions, behind the begins and commits that are gone, exactly.
abbrev pub IsKeptSplit : List TxnId → EngineState → History → History → Type 0
IsKeptSplit gone engine whole asked =
    HistoryCanBeSplit whole × HistoryCanBeSplit asked × KeepsRest gone engine (split_history whole) (split_history asked) × ToldBehind gone engine whole asked

-- What the engine of a script keeps remains of what was accepted, behind what is gone, in this order, split or not: so what a show, a save and a cut
-- tell of is that. The open round's snapshot is one of what was accepted when the round began, behind the same.
abbrev pub IsKeptBehind : Stage → List TxnId → Accepted → Type 0
IsKeptBehind (stage.Open audit (Ordered version)) gone accepted = KeepsRest gone audit.engine accepted.whole accepted.asked
IsKeptBehind (stage.Open audit (Isolated version)) gone accepted = IsKeptSplit gone audit.engine accepted.whole accepted.asked
IsKeptBehind other gone accepted = ⊥

-- Once an engine is open, what is kept stands for what was accepted, and, where the order of what is gone is known, remains behind that.
abbrev pub IsKept : Stage → Option Accepted → Type 0
IsKept old None = ⊤
IsKept old (Some accepted) = StandsForAccepted old accepted × IfSome accepted.past (λ gone. IsKeptBehind old gone accepted)

-- What a reply puts behind what is gone: a cut the transactions that it tells, in some order, and any other reply nothing.
abbrev pub MovesTxns : Reply → List TxnId → Type 0
MovesTxns (told.Cut fence gone last) ahead = (id : TxnId) → Contains ahead id ↔ Contains gone id
MovesTxns answer ahead = ahead ≡ []

-- The same where transactions are split: a cut puts halves there, and those that it tells are the transactions whose commit is among these.
abbrev pub MovesHalves : Reply → List TxnId → Type 0
MovesHalves (told.Cut fence gone last) ahead = (id : TxnId) → Contains ahead (commit_half id) ↔ Contains gone id
MovesHalves answer ahead = ahead ≡ []

-- by what the script asks for
abbrev pub MovesBehind : Stage → Reply → List TxnId → Type 0
MovesBehind (stage.Open audit (Isolated version)) answer ahead = MovesHalves answer ahead
MovesBehind other answer ahead = MovesTxns answer ahead

-- Once an engine is open: the reply is true of what was accepted by then, and puts these behind what is gone. Before, there are none.
abbrev pub IsTrueTold : Stage → Option Accepted → Command → Reply → List TxnId → Type 0
IsTrueTold old None command answer ahead = ahead ≡ []
IsTrueTold old (Some accepted) command answer ahead = TellsBy old accepted.left accepted.past (reported_on accepted command) answer × IfSome accepted.past (λ gone. MovesBehind old answer ahead)

-- Where a hand-over ends, the parts that were handed over stand for the whole history with which the script begins; or, where transactions are
-- split, for the split one. Where it is said so, they are what is left of it, too, and remain of it behind the order of what is gone.
abbrev pub BeginsWith : Origin → Stage → Command → Reply → Type 0
BeginsWith origin (stage.Handing handed (Ordered version)) Resumed told.Done =
    StandsFor (handed_parts handed) origin.whole × (origin.left ≡ true → IsLeftOf (handed_parts handed) origin.whole) × IfSome origin.past (λ gone. RemainsBehind gone (handed_parts handed) origin.whole)
BeginsWith origin (stage.Handing handed (Isolated version)) Resumed told.Done =
    StandsFor (handed_parts handed) (split_history origin.whole) × HistoryCanBeSplit origin.whole × (origin.left ≡ true → IsLeftOf (handed_parts handed) (split_history origin.whole))
    × IfSome origin.past (λ gone. RemainsBehind gone (handed_parts handed) (split_history origin.whole))
BeginsWith origin old command answer = ⊤

-- Line after line, from where the script stands and what was accepted by then: each line is answered as it may be, each report is true of what was
-- accepted, and what is kept is what remains behind one order of what is gone, which a cut makes longer and nothing else changes. A line that is no
-- command adds nothing.
abbrev pub AreTrueReplies : Origin → Stage → Option Accepted → List (List ℕ) → List Reply → Stage → Type 0
AreTrueReplies origin old accepted [] [] new = (new ≡ old) × IsKept old accepted
AreTrueReplies origin old accepted (line ∷ lines) (answer ∷ answers) new =
    ((command : Command) × (between : Stage) × (ahead : List TxnId) × Asks (names_at old) line command × Answers old command answer between × IsKept old accepted × IsTrueTold old accepted command answer ahead
    × (BeginsWith origin old command answer → AreTrueReplies origin between (option_map (λ so_far. moved so_far ahead) (accepted_after origin accepted command answer)) lines answers new))
    ⊎ (((command : Command) → ¬ Asks (names_at old) line command) × IsBadLine old answer old × AreTrueReplies origin old accepted lines answers new)
AreTrueReplies origin old accepted [] (answer ∷ answers) new = ⊥
AreTrueReplies origin old accepted (line ∷ lines) [] new = ⊥

-- Whatever is written in reply to lines, from the first of a script on, is the text of replies whose reports are all true.
abbrev pub EachReportIsTrue : Type 0
EachReportIsTrue =
    (origin : Origin) (asked : List (List ℕ)) (output : List ℕ) (end : Stage) → IsOutputOf asked output end
    → (replies : List Reply) × (output ≡ concat (map line_of replies)) × AreTrueReplies origin stage.Nothing None asked replies end
