-- What right replies to a script mean, told of what its lines offered alone, behind one order of what is gone: as the main theorem of cobra has it
-- of what an auditor writes.
use Rattle.std.specs.Prelude.{◌≡◌, ◌⊎◌, ℕ, true, List, [], ◌∷◌, ◌++◌, Option, Some, None}
use Rattle.txn.specs.declared.transactions.TxnId.{TxnId}
use Rattle.txn.specs.History.{History}
use Rattle.log_text.specs.declared.commands.Command.{Command}
use Rattle.log_text.specs.declared.commands.Command.TheVariants.{Round}
use Rattle.log_text.specs.declared.replies.Reply.{Reply}
use Rattle.log_text.specs.declared.versions.Opening.{Opening}
use Rattle.log_text.specs.declared.versions.Opening.TheVariants.{Ordered, Isolated}
use Rattle.log_text.specs.Replies.{text_of}
use Rattle.round_state.specs.Legal.{State}
use Rattle.round_state.specs.Runs.{Holds}
use Rattle.isolation_scripts.specs.Legal.{HoldsSplit}
use Rattle.cobra.specs.Outputs.{Asks}
use Rattle.cobra.specs.Scripts.{IsBadLine}
use Rattle.cobra.specs.TrueReports.{IsKeptSplit, KeepsRest, MovesHalves, MovesTxns, TellsIsolation, TellsTrueOf}
use Rattle.report_checking.specs.Checking.{Checks, IsUnchecked}
use Rattle.report_checking.specs.OwedLines.{Owes, ScriptState, names_told}
use Rattle.report_checking.specs.Telling.{what_of}
use Rattle.report_checking.specs.declared.findings.Found.{Found}
use Rattle.report_checking.specs.declared.findings.Found.TheVariants as found

-- What the report that a command is answered tells of: a round begins with the line itself, and the others end one that is open.
abbrev pub reported_in : State → Command → History
reported_in old (Round budget depth workers search) = old.whole
reported_in old command = old.asked

-- What the engine of an open script keeps stands for all that was received: whatever may still come, the verdicts agree (StandsFor). So does the open
-- round's snapshot for what had been received when the round began. Where transactions are split, their halves do.
abbrev pub StandsForReceived : Opening → State → Type 0
StandsForReceived (Ordered version) state = Holds state.engine state
StandsForReceived (Isolated version) state = HoldsSplit state.engine state

-- It stands for that, and remains of it, behind what is gone, in this order, split or not. So does the snapshot, of what had been received when the
-- round began, behind the same.
abbrev pub IsKeptIn : Opening → List TxnId → State → Type 0
IsKeptIn (Ordered version) gone state = StandsForReceived (Ordered version) state × KeepsRest gone state.engine state.whole state.asked
IsKeptIn (Isolated version) gone state = StandsForReceived (Isolated version) state × IsKeptSplit gone state.engine state.whole state.asked

-- the same of a script, where before it is open nothing is gone
abbrev pub IsKept : Option ScriptState → List TxnId → Type 0
IsKept None gone = gone ≡ []
IsKept (Some script) gone = IsKeptIn script.opening gone script.state

-- What a reply puts behind what is gone: a cut the transactions that it tells, or halves whose commits are those of these, and any other reply nothing.
abbrev pub MovesIn : Opening → Reply → List TxnId → Type 0
MovesIn (Ordered version) answer ahead = MovesTxns answer ahead
MovesIn (Isolated version) answer ahead = MovesHalves answer ahead

-- A reply that is a report is true of a history, by the promise that the script asks for.
abbrev pub TellsIn : Opening → List TxnId → History → Reply → Type 0
TellsIn (Ordered version) gone history answer = TellsTrueOf true (Some gone) history answer
TellsIn (Isolated version) gone history answer = TellsIsolation true (Some gone) history answer

-- Once a script is open: the reply to the command is true of what was received, and puts these behind what is gone. Before, there are none.
abbrev pub IsTrueTold : Option ScriptState → List TxnId → Command → Reply → List TxnId → Type 0
IsTrueTold None gone command answer ahead = ahead ≡ []
IsTrueTold (Some old) gone command answer ahead = TellsIn old.opening gone (reported_in old.state command) answer × MovesIn old.opening answer ahead

-- The reply is owed to the line, and true.
abbrev pub TellsTrue : Option ScriptState → List TxnId → List ℕ → Reply → List TxnId → Option ScriptState → Type 0
TellsTrue old gone line answer ahead new =
    ((command : Command) × Asks (names_told old) line command × Owes old command answer new × IsTrueTold old gone command answer ahead)
    ⊎ (((command : Command) → ¬ Asks (names_told old) line command) × IsBadLine old answer new × (ahead ≡ []))

-- From the beginning of a script on: lines and stored replies by turns, each of which is owed and true, or says that memory was wanting; what is gone,
-- in an order that a cut makes longer and nothing else changes; and what is kept, which remains behind that. And what is found of the replies.
pub data ChecksTrue : List (List ℕ) → Option ScriptState → List TxnId → List Found → Type 0 where
  beginning : ChecksTrue [] None [] []
  true_reply : (front : List (List ℕ)) (line stored : List ℕ) (at new : Option ScriptState) (gone ahead : List TxnId) (all : List Found) (answer : Reply)
      → ChecksTrue front at gone all → TellsTrue at gone line answer ahead new → stored ≡ text_of answer → IsKept new (gone ++ ahead)
      → ChecksTrue (front ++ line ∷ stored ∷ []) new (gone ++ ahead) (all ++ found.Right (what_of answer) ∷ [])
  left_out : (front : List (List ℕ)) (line stored : List ℕ) (at new : Option ScriptState) (gone : List TxnId) (all : List Found)
      → ChecksTrue front at gone all → IsUnchecked at line stored new → IsKept new gone
      → ChecksTrue (front ++ line ∷ stored ∷ []) new gone (all ++ found.Unchecked ∷ [])

-- Whatever is found right is true so.
abbrev pub RightRepliesAreTrue : Type 0
RightRepliesAreTrue = (front : List (List ℕ)) (state : Option ScriptState) (all : List Found) → Checks front state all → (gone : List TxnId) × ChecksTrue front state gone all
