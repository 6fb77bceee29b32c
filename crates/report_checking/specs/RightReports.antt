-- Scripts of which a stored reply is told wrong, or of which nothing is checked from some line on: the first such reply isn't a right one.
use Rattle.std.specs.Prelude.{◌≡◌, ◌≢◌, ◌<◌, ◌⊎◌, ⊤, ℕ, true, false, List, [], ◌∷◌, ◌++◌, length, Option, Some, None}
use Rattle.log_text.specs.declared.commands.Command.{Command}
use Rattle.log_text.specs.declared.commands.Command.TheVariants.{Finish, Round, Collect, Answer}
use Rattle.log_text.specs.declared.replies.Reply.{Reply}
use Rattle.log_text.specs.declared.replies.Reply.TheVariants as told
use Rattle.log_text.specs.declared.shown.Shown.{Shown}
use Rattle.log_text.specs.declared.shown.Shown.TheVariants as shown
use Rattle.log_text.specs.Replies.{text_of}
use Rattle.log_text.specs.declared.versions.Opening.{Opening}
use Rattle.log_text.specs.declared.versions.Opening.TheVariants.{Ordered, Isolated}
use Rattle.byte_lines.specs.Lines.{lines}
use Rattle.round_state.specs.Legal.{State, Legal}
use Rattle.round_state.specs.declared.reports.Certificate.{Certificate}
use Rattle.round_state.specs.declared.reports.Certificate.TheVariants.{Order, Refuted, Nothing}
use Rattle.round_state.specs.declared.reports.Report.{Report}
use Rattle.round_state.specs.declared.steps.Step.TheVariants as step
use Rattle.round_state.specs.declared.steps.StepReply.TheVariants as reply
use Rattle.isolation_scripts.specs.Legal.{LegalIsolation}
use Rattle.cobra.specs.Outputs.{Asks}
use Rattle.cobra.specs.StepReplies.{claim_of, report_of}
use Rattle.log_text.specs.Versions.{names_of}
use Rattle.report_checking.specs.Checking.{Checks, IsRightReply, IsRightSoFar, IsUnchecked}
use Rattle.report_checking.specs.Isolation.{IsOwedIsolation, told_by}
use Rattle.log_text.specs.Shown.{IsShownIn}
use Rattle.report_checking.specs.OwedLines.{OwesLine, ScriptState}
use Rattle.report_checking.specs.Owing.{IsOwedReport}
use Rattle.report_checking.specs.Telling.{owes_nothing}
use Rattle.report_checking.specs.Unshown.{IsUnshown}
use Rattle.report_checking.specs.declared.findings.Fault.{Fault}
use Rattle.report_checking.specs.declared.findings.Fault.TheVariants as fault
use Rattle.report_checking.specs.declared.findings.Found.{Found}
use Rattle.report_checking.specs.declared.findings.Found.TheVariants as found

-- what the text of a report with this certificate is to show
abbrev pub shown_of : Certificate → Option Shown
shown_of (Order order) = Some (shown.Order order)
shown_of (Refuted tree) = Some (shown.Refuted tree)
shown_of Nothing = None

-- the report is owed to a command that ends a round; to one that hands an answer in, where that is right
abbrev pub OwesReport : ScriptState → Command → Report → State → Type 0
OwesReport old (Finish budget depth workers search) report new = (old.searched ≡ false) × IsOwedReport old.state report new
OwesReport old (Collect waits) report new = (old.searched ≡ true) × IsOwedReport old.state report new
OwesReport old (Round budget depth workers search) report new = (begun : State) × Legal old.state step.Begin reply.Done begun × IsOwedReport begun report new
OwesReport old (Answer handed) report new = Legal old.state (step.Judge (claim_of handed)) (reply.Report report) new
OwesReport old command report new = ⊥

-- the same where transactions are split
abbrev pub OwesIsolation : ScriptState → Command → Report → State → Type 0
OwesIsolation old (Finish budget depth workers search) report new = (old.searched ≡ false) × IsOwedIsolation old.state report new
OwesIsolation old (Collect waits) report new = (old.searched ≡ true) × IsOwedIsolation old.state report new
OwesIsolation old (Round budget depth workers search) report new = (begun : State) × LegalIsolation old.state step.Begin reply.Done begun × IsOwedIsolation begun report new
OwesIsolation old (Answer handed) report new = LegalIsolation old.state (step.Judge (claim_of handed)) (reply.Report report) new
OwesIsolation old command report new = ⊥

-- by what the script asks
abbrev pub OwesReportIn : Opening → ScriptState → Command → Report → State → Type 0
OwesReportIn (Ordered version) old command report new = OwesReport old command report new
OwesReportIn (Isolated version) old command report new = OwesIsolation old command report new

-- The stored reply to the line is a right report: it is the text of one that is owed, whatever its certificate, and it shows that
-- certificate: an order or a tree by ids, or by begins and commits. The text that `write_reply` wrote of a report does, where that can be read.
pub record IsRightReport (old : ScriptState) (line stored : List ℕ) : Type 0 where
  pub command : Command
  pub asks : Asks (names_of old.opening) line command
  pub report : Report
  pub new : State
  pub owed : OwesReportIn old.opening old command report new
  pub text_is : stored ≡ text_of (told_by (names_of old.opening) (report_of report))
  pub shows : IsShownIn (names_of old.opening) stored (shown_of report.certificate)

-- the same of a script
abbrev pub TellsRightReport : Option ScriptState → List ℕ → List ℕ → Type 0
TellsRightReport None line stored = ⊥
TellsRightReport (Some old) line stored = IsRightReport old line stored

-- the reply isn't a report
abbrev pub IsNoReport : Reply → Type 0
IsNoReport (told.Order names round kind counts order) = ⊥
IsNoReport (told.Violated names round counts tree) = ⊥
IsNoReport (told.Spent round counts) = ⊥
IsNoReport answer = ⊤

-- The stored reply to the line is right, and no report: it is the text of one that is owed.
pub record IsRightOther (old : Option ScriptState) (line stored : List ℕ) : Type 0 where
  pub answer : Reply
  pub new : Option ScriptState
  pub no_report : IsNoReport answer
  pub owed : OwesLine old line answer new
  pub text_is : stored ≡ text_of answer

-- The stored reply to the line is wrong: it is no right report, it is no other right reply, and it doesn't say that memory was wanting where
-- that is left out.
pub record IsWrongReply (old : Option ScriptState) (line stored : List ℕ) : Type 0 where
  pub report : ¬ TellsRightReport old line stored
  pub other : ¬ IsRightOther old line stored
  pub checked : (new : Option ScriptState) → ¬ IsUnchecked old line stored new

-- What is wrong with the next line and its reply: the line has no reply; or one that is longer than any that is read (1 GiB); or one that is
-- wrong, where this other text is a right reply to the line; or one that is wrong, where it doesn't show this.
abbrev pub HasFault : Option ScriptState → List (List ℕ) → Fault → Type 0
HasFault state (line ∷ []) fault.Missing = ⊤
HasFault state (line ∷ stored ∷ left) fault.TooLong = 1073741824 < length stored
HasFault state (line ∷ stored ∷ left) (fault.Other text) = IsWrongReply state line stored × (stored ≢ text.items) × (new : Option ScriptState) × IsRightReply state line text.items new
HasFault state (line ∷ stored ∷ left) (fault.Unshown why) = IsWrongReply state line stored × IsUnshown state line stored why
HasFault state left why = ⊥

-- The input's lines were checked up to a reply that isn't right; and this is found of the replies, of the last one why it isn't.
pub record FindsWrong (input : List ℕ) (all : List Found) : Type 0 where
  pub front : List (List ℕ)
  pub left : List (List ℕ)
  pub split : lines input ≡ front ++ left
  pub state : Option ScriptState
  pub right : List Found
  pub checks : Checks front state right
  pub why : Fault
  pub wrong : HasFault state left why
  pub all_is : all ≡ right ++ found.Wrong why ∷ []

-- so it is, and the last one is wrong: something is owed to its line
abbrev pub EndsAtWrong : List ℕ → List Found → Type 0
EndsAtWrong input all = (finds : FindsWrong input all) × (owes_nothing finds.why ≡ false)

-- so it is, and nothing is owed to the last one's line, with which a script begins that isn't checked
abbrev pub EndsUnchecked : List ℕ → List Found → Type 0
EndsUnchecked input all = (finds : FindsWrong input all) × (owes_nothing finds.why ≡ true)

abbrev pub StopsAtWrong : List ℕ → Type 0
StopsAtWrong input = (all : List Found) × EndsAtWrong input all

abbrev pub StopsUnchecked : List ℕ → Type 0
StopsUnchecked input = (all : List Found) × EndsUnchecked input all

-- No reply is wrong, and not all are checked: some say that memory was wanting, and the others are right; or the check stops where a script
-- begins that isn't checked.
abbrev pub IsRightUnlessUnchecked : List ℕ → Type 0
IsRightUnlessUnchecked input = IsRightSoFar input ⊎ StopsUnchecked input
