-- For private clauses: what single calls of the checker come to, whatever histories its engine stood for.
use Rattle.std.specs.Prelude.{◌≡◌, ◌≢◌, ℕ, ◌<◌, ◌⊎◌, ⊤, Bool, true, false, not, nat_eq, List, [], ◌∷◌, ◌++◌, length, Option, Some, None}
use Rattle.std.specs.List.{list_any}
use Rattle.txn.specs.declared.refusals.Refusal.{Refusal}
use Rattle.txn.specs.declared.refusals.Refusal.TheVariants.{NoMemory, NoRound, RoundOpen, BadLine}
use Rattle.log_text.specs.declared.commands.Command.{Command}
use Rattle.log_text.specs.declared.commands.Command.TheVariants.{Start, Offer, Join, Close, Begin, Finish, Round, BeginSearch, Collect, Skip, Truncate, Rebuild, Show, Resume, Save, Answer}
use Rattle.polygraph.specs.declared.solving.Answer as solved
use Rattle.polygraph.specs.declared.solving.Answer.TheVariants as answers
use Rattle.log_text.specs.declared.replies.Reply.{Reply}
use Rattle.log_text.specs.declared.replies.Reply.TheVariants as told
use Rattle.log_text.specs.Replies.{HasKindOfOrder, text_of}
use Rattle.log_text.specs.ReadBack.{IsSameTree, IsSameShown}
use Rattle.log_text.specs.declared.shown.Shown.{Shown}
use Rattle.log_text.specs.declared.shown.Shown.TheVariants as shown
use Rattle.log_text.specs.Versions.{has_form, most_sessions}
use Rattle.log_text.specs.declared.names.Names.{Names}
use Rattle.log_text.specs.declared.names.Names.TheVariants.{Ids}
use Rattle.log_text.specs.declared.versions.Opening.{Opening}
use Rattle.log_text.specs.declared.versions.Opening.TheVariants.{Ordered, Isolated}
use Rattle.log_text.specs.declared.versions.Version.{Version}
use Rattle.logged_fragments.specs.declared.logged.LoggedFragment.{LoggedFragment}
use Rattle.byte_lines.specs.declared.lines.Next.{Next}
use Rattle.byte_lines.specs.declared.lines.Next.TheVariants.{Line, TooLong, End}
use Rattle.byte_lines.specs.LineReaders.{IsNextOf}
use Rattle.byte_lines.specs.Lines.{lines}
use Rattle.round_state.specs.EngineState.{EngineState}
use Rattle.round_state.specs.Legal.{State}
use Rattle.round_state.specs.Runs.{Holds}
use Rattle.round_state.specs.Steps.{StepsTo}
use Rattle.round_state.specs.declared.reports.Report.{Report}
use Rattle.round_state.specs.declared.steps.Step.{Step}
use Rattle.round_state.specs.declared.steps.Step.TheVariants as step
use Rattle.round_state.specs.declared.steps.StepReply.{StepReply}
use Rattle.round_state.specs.declared.steps.StepReply.TheVariants as reply
use Rattle.isolation_scripts.specs.Isolated.{isolated_of}
use Rattle.isolation_scripts.specs.Legal.{HoldsSplit}
use Rattle.isolation_scripts.specs.Splitting.{CanBeAsked, IsAskedFault, split_command}
use Rattle.cobra.specs.Outputs.{Asks, IsTold}
use Rattle.cobra.specs.Saving.{saved_told}
use Rattle.cobra.specs.Scripts.{IsBeginningRefusal, MayBegin, state_told}
use Rattle.cobra.specs.StepReplies.{claim_of, report_of, reply_of}
use Rattle.report_checking.specs.Checking.{IsRightReply, IsUnchecked, TakesMemory, Checks, FindsRight, left_by}
use Rattle.log_text.specs.Versions.{names_of}
use Rattle.log_text.specs.declared.versions.Promise.TheVariants.{Resumable, Strict}
use Rattle.report_checking.specs.Isolation.{told_by}
use Rattle.log_text.specs.Shown.{IsShownIn}
use Rattle.report_checking.specs.OwedLines.{Owes, ScriptState}
use Rattle.report_checking.specs.Owing.{BeginsSearch, IsEarned}
use Rattle.report_checking.specs.Outcomes.{FindsFirst}
use Rattle.report_checking.specs.RightReports.{shown_of, FindsWrong}
use Rattle.report_checking.specs.Telling.{what_of, found_line, one_more, AppendsFront}
use Rattle.report_checking.specs.Unshown.{EndsWrong, IsUnshown}
use Rattle.report_checking.specs.declared.findings.Found.{Found}
use Rattle.report_checking.specs.declared.open_scripts.OpenScript.{OpenScript}
use Rattle.report_checking.specs.declared.findings.Found.TheVariants as found
use Rattle.report_checking.specs.declared.findings.Fault.{Fault}
use Rattle.report_checking.specs.declared.findings.Fault.TheVariants as fault
use Rattle.report_checking.specs.declared.findings.Owed.{Owed}
use Rattle.report_checking.specs.declared.findings.Owed.TheVariants as owed
use Rattle.report_checking.specs.declared.findings.Unshown.{Unshown}
use Rattle.report_checking.specs.declared.findings.Unshown.TheVariants as unshown
use Rattle.report_checking.specs.declared.texts.Tally.{Tally}
use Rattle.std.specs.Io.KnownBytes.{Appends}

-- whatever histories stood beside the old engine, some stand beside the new one, of which this is so
abbrev pub Leads : EngineState → EngineState → (State → State → Type 0) → Type 0
Leads old new P = (before : State) → Holds old before → (after : State) × P before after × Holds new after

-- the same where transactions are split: the histories are as they were offered
abbrev pub LeadsSplit : EngineState → EngineState → (State → State → Type 0) → Type 0
LeadsSplit old new P = (before : State) → HoldsSplit old before → (after : State) × P before after × HoldsSplit new after

-- by what a script asks
abbrev pub HoldsIn : Opening → EngineState → State → Type 0
HoldsIn (Ordered version) engine state = Holds engine state
HoldsIn (Isolated version) engine state = HoldsSplit engine state

abbrev pub LeadsIn : Opening → EngineState → EngineState → (State → State → Type 0) → Type 0
LeadsIn opening old new P = (before : State) → HoldsIn opening old before → (after : State) × P before after × HoldsIn opening new after

-- A script, once it is open, asks what its state does, and searches where that does; its engine is that of the state, and stands for the
-- histories of the state.
abbrev pub HoldsScript : Option OpenScript → Option ScriptState → Type 0
HoldsScript None None = ⊤
HoldsScript (Some script) (Some state) = HoldsIn script.opening script.engine state.state × (script.opening ≡ state.opening) × (script.searched ≡ state.searched)
HoldsScript script state = ⊥

-- the same of a script, once it is open
abbrev pub LeadsScript : Option OpenScript → Option OpenScript → (Option ScriptState → Option ScriptState → Type 0) → Type 0
LeadsScript old new P = (before : Option ScriptState) → HoldsScript old before → (after : Option ScriptState) × P before after × HoldsScript new after

-- a reply that is owed is of a kind that has its certificate, and leads on; of a certificate that shows nothing, nothing is said
abbrev pub IsOwedBy : (Reply → Type 0) → Owed → Type 0
IsOwedBy P (owed.Reply answer) = HasKindOfOrder answer × P answer
IsOwedBy P (owed.Nothing why) = ⊤

-- of what isn't shown this is so
abbrev pub Unshows : (Unshown → Type 0) → Owed → Type 0
Unshows P (owed.Reply answer) = ⊤
Unshows P (owed.Nothing why) = P why

-- a reply that is owed is of a kind that has its certificate
abbrev pub IsOfKind : Owed → Type 0
IsOfKind (owed.Reply answer) = HasKindOfOrder answer
IsOfKind (owed.Nothing why) = ⊤

-- the line that was read, which may be longer than a script's
abbrev pub IsRead : List ℕ → Next → Type 0
IsRead line (Line bytes) = bytes.items ≡ line
IsRead line TooLong = 8388608 < length line
IsRead line End = ⊥

-- What was found of a stored reply.
abbrev pub Finds : Option OpenScript → Next → List ℕ → Found → Option OpenScript → Type 0
Finds old next stored (found.Right what) new = (line : List ℕ) → IsTold line next → LeadsScript old new (λ before after. (reply : IsRightReply before line stored after) × (what ≡ what_of reply.answer))
Finds old next stored found.Unchecked new = (line : List ℕ) → IsTold line next → LeadsScript old new (λ before after. IsUnchecked before line stored after)
Finds old next stored (found.Wrong (fault.Other text)) new = (line : List ℕ) → IsTold line next → LeadsScript old new (λ before after. (stored ≢ text.items) × IsRightReply before line text.items after)
Finds old next stored (found.Wrong (fault.Unshown why)) new = (line : List ℕ) → IsTold line next → (before : Option ScriptState) → HoldsScript old before → IsUnshown before line stored why
Finds old next stored other new = ⊥

-- What is found of a stored reply where this one is owed.
abbrev pub IsFoundBy : Reply → List ℕ → Found → Type 0
IsFoundBy answer stored (found.Right what) = (stored ≡ text_of answer) × (what ≡ what_of answer)
IsFoundBy answer stored (found.Wrong (fault.Other text)) = (stored ≢ text.items) × (text.items ≡ text_of answer)
IsFoundBy answer stored other = ⊥

-- the same where it may be that nothing is owed; want of memory of our own isn't found
abbrev pub IsFoundOf : Owed → List ℕ → Found → Type 0
IsFoundOf (owed.Reply answer) stored given = IsFoundBy answer stored given × (answer ≢ told.No NoMemory)
IsFoundOf (owed.Nothing why) stored (found.Wrong (fault.Unshown told_why)) = told_why ≡ why
IsFoundOf (owed.Nothing why) stored other = ⊥

-- whether a brace stands in the text
abbrev pub has_brace : List ℕ → Bool
has_brace text = list_any (λ byte. nat_eq byte 123) text

-- the command may be told that a search goes on
abbrev pub MayGoOn : Option OpenScript → Command → Type 0
MayGoOn (Some script) (Collect waits) = (waits ≡ false) × (script.searched ≡ true)
MayGoOn script command = ⊥

-- what is left of a script where memory was wanting for a command
abbrev pub script_left : Command → Option OpenScript → Option OpenScript
script_left (Collect waits) (Some script) = Some (record script { searched = false })
script_left command script = script

-- what the stored reply to a command of a script doesn't show
abbrev pub IsUnshownIn : Option OpenScript → Command → List ℕ → Unshown → Type 0
IsUnshownIn None (Resume sessions limit opening) stored unshown.Beginning = ⊤
IsUnshownIn None (Start sessions limit (Strict version)) stored unshown.Strict = ⊤
IsUnshownIn None command stored why = ⊥
IsUnshownIn (Some script) command stored why = EndsWrong (names_of script.opening) script.engine command stored why

-- What is found of a stored reply to a command.
abbrev pub FindsFor : Option OpenScript → Command → List ℕ → Found → Option OpenScript → Type 0
FindsFor old command stored (found.Right what) new = (answer : Reply) × (stored ≡ text_of answer) × (what ≡ what_of answer) × LeadsScript old new (λ before after. Owes before command answer after)
FindsFor old command stored found.Unchecked new = TakesMemory old command × (stored ≡ text_of (told.No NoMemory)) × LeadsScript old new (λ before after. after ≡ left_by command before)
FindsFor old command stored (found.Wrong (fault.Other text)) new = (answer : Reply) × (stored ≢ text.items) × (text.items ≡ text_of answer) × LeadsScript old new (λ before after. Owes before command answer after)
FindsFor old command stored (found.Wrong (fault.Unshown why)) new = IsUnshownIn old command stored why
FindsFor old command stored other new = ⊥

-- What is found of what was read behind a line.
abbrev pub FindsNext : Option OpenScript → Next → Next → Found → Option OpenScript → Type 0
FindsNext old line (Line stored) given new = Finds old line stored.items given new
FindsNext old line TooLong (found.Wrong fault.TooLong) new = ⊤
FindsNext old line End (found.Wrong fault.Missing) new = ⊤
FindsNext old line other given new = ⊥

-- nothing wrong was found
abbrev pub IsFine : Found → Type 0
IsFine given = (why : Fault) → given ≢ found.Wrong why

-- A script is being checked: what was checked so far, and the lines that are ahead; and this was found so far.
pub record IsChecking (input : List ℕ) (ahead : Option (List (List ℕ))) (script : Option OpenScript) (all : List Found) : Type 0 where
  pub left : List (List ℕ)
  pub left_is : ahead ≡ Some left
  pub front : List (List ℕ)
  pub split : lines input ≡ front ++ left
  pub state : Option ScriptState
  pub checks : Checks front state all
  pub holds : HoldsScript script state

-- From what was ahead behind a line, what was found of the reply to it leads on, unless that is wrong.
abbrev pub LeadsOn : ℕ → Option (List (List ℕ)) → Next → Option OpenScript → Found → Option (List (List ℕ)) → Option OpenScript → Type 0
LeadsOn limit b next old given c new = (input : List ℕ) (a : Option (List (List ℕ))) (all : List Found) → IsChecking input a old all → IsNextOf limit a next b → next ≢ End → IsFine given → IsChecking input c new (all ++ given ∷ [])

-- The end was reached, or one more line and its reply were checked, of which this was found.
abbrev pub Advances : Option (List (List ℕ)) → Option OpenScript → Option Found → Option (List (List ℕ)) → Option OpenScript → Type 0
Advances old script None new after = (input : List ℕ) (all : List Found) → IsChecking input old script all → FindsRight input all
Advances old script (Some (found.Wrong why)) new after = (input : List ℕ) (all : List Found) → IsChecking input old script all → FindsWrong input (all ++ found.Wrong why ∷ [])
Advances old script (Some given) new after = (input : List ℕ) (all : List Found) → IsChecking input old script all → IsChecking input new after (all ++ given ∷ [])

-- the next line has a reply, of which this may be found
abbrev pub MayFind : Option (List (List ℕ)) → Option OpenScript → Found → Type 0
MayFind ahead script given = (input : List ℕ) (all : List Found) → IsChecking input ahead script all → FindsFirst input (all ++ given ∷ [])

-- Where the next line and its reply weren't checked to the end, nothing was written; or a front of the line of what was found.
abbrev pub TellsFront : Option (List (List ℕ)) → Option OpenScript → Tally → Option (List ℕ) → Option (List ℕ) → Type 0
TellsFront ahead script tally before after =
    Appends before after []
    ⊎ ((given : Found) × MayFind ahead script given × AppendsFront before after (found_line (one_more tally.replies) given))

-- ---- Of right reports.

-- what is found, as the answer of a search
abbrev pub answer_of : Option Shown → solved.Answer
answer_of None = answers.Spent
answer_of (Some (shown.Order order)) = answers.Yes order
answer_of (Some (shown.Refuted tree)) = answers.No tree

-- what isn't so where the answer is wrong
abbrev pub unshown_of : solved.Answer → Unshown
unshown_of (answers.Yes order) = unshown.Order
unshown_of answer = unshown.Refutation

-- The answer is what is shown, a tree wherever it is kept in memory.
abbrev pub IsAnswerOf : Option Shown → solved.Answer → Type 0
IsAnswerOf None answers.Spent = ⊤
IsAnswerOf (Some (shown.Order order)) (answers.Yes order') = order' ≡ order
IsAnswerOf (Some (shown.Refuted tree)) (answers.No tree') = IsSameTree tree' tree
IsAnswerOf found answer = ⊥

-- what is owed to a step is the reply of the engine, told
abbrev pub IsToldOf : EngineState → Step → Owed → Type 0
IsToldOf old asked given = (said : StepReply) × (new : EngineState) × StepsTo old asked said new × (given ≡ owed.Reply (reply_of said))

-- The reply with this text by these names is owed, unless our own engine found no memory.
abbrev pub OwesText : Names → List ℕ → Owed → Type 0
OwesText names text (owed.Reply answer) = (answer ≡ told.No NoMemory) ⊎ (text_of (told_by names answer) ≡ text)
OwesText names text (owed.Nothing why) = ⊥

-- By the engine alone: a command that ends a round earns the report. An answer that is handed in may be kept elsewhere in memory.
abbrev pub Earns : EngineState → Command → Report → EngineState → Type 0
Earns old (Finish budget depth workers search) report new = IsEarned old report new
Earns old (Round budget depth workers search) report new = (begun : EngineState) × StepsTo old step.Begin reply.Done begun × IsEarned begun report new
Earns old (Answer handed) report new = (other : Shown) × IsSameShown (Some handed) (Some other) × StepsTo old (step.Judge (claim_of other)) (reply.Report report) new
Earns old command report new = ⊥

-- the same of a finish, where it may be made
abbrev pub EarnsWhere : Bool → EngineState → Report → EngineState → Type 0
EarnsWhere may old report new = (may ≡ true) × IsEarned old report new

-- the same where a search is under way, or none is
abbrev pub EarnsBeside : Bool → EngineState → Command → Report → EngineState → Type 0
EarnsBeside searched old (BeginSearch budget depth workers search) report new = ⊥
EarnsBeside searched old (Collect waits) report new = EarnsWhere searched old report new
EarnsBeside searched old Skip report new = ⊥
EarnsBeside searched old (Finish budget depth workers search) report new = EarnsWhere (not searched) old report new
EarnsBeside searched old command report new = Earns old command report new

-- the same by what a script asks
abbrev pub EarnsIn : Opening → Bool → EngineState → Command → Report → EngineState → Type 0
EarnsIn (Ordered version) searched old command report new = EarnsBeside searched old command report new
EarnsIn (Isolated version) searched old command report new = CanBeAsked (most_sessions version) command × EarnsBeside searched old (split_command command) report new

abbrev pub EarnsScript : Option OpenScript → Command → Report → EngineState → Type 0
EarnsScript None command report new = ⊥
EarnsScript (Some old) command report new = EarnsIn old.opening old.searched old.engine command report new

-- by which names a script tells of transactions
abbrev pub names_in : Option OpenScript → Names
names_in None = Ids
names_in (Some script) = names_of script.opening

-- Where a report is earned and the stored reply shows its certificate by these names, this is so of its text.
abbrev pub OfRight : Names → (Report → EngineState → Type 0) → List ℕ → (List ℕ → Type 0) → Type 0
OfRight names Earned stored P = (report : Report) (new : EngineState) → Earned report new → IsShownIn names stored (shown_of report.certificate) → P (text_of (told_by names (report_of report)))

-- A reply to the command that is found wrong isn't the text of a right report.
abbrev pub IsFair : Option OpenScript → Command → List ℕ → Found → Type 0
IsFair old command stored (found.Wrong why) = OfRight (names_in old) (EarnsScript old command) stored (λ text. stored ≢ text)
IsFair old command stored given = ⊤

-- the same of a reply to what was read
abbrev pub IsFairTo : Option OpenScript → Next → List ℕ → Found → Type 0
IsFairTo old next stored (found.Wrong why) = (line : List ℕ) → IsTold line next → (command : Command) → Asks (names_in old) line command → OfRight (names_in old) (EarnsScript old command) stored (λ text. stored ≢ text)
IsFairTo old next stored given = ⊤

-- and of what was read behind it
abbrev pub IsFairNext : Option OpenScript → Next → Next → Found → Type 0
IsFairNext old line (Line stored) given = IsFairTo old line stored.items given
IsFairNext old line other given = ⊤

-- Where what was found of the reply behind a line is wrong, the script stops there.
abbrev pub StopsOn : ℕ → Option (List (List ℕ)) → Next → Option OpenScript → Found → Type 0
StopsOn limit b next old given = (input : List ℕ) (a : Option (List (List ℕ))) (all : List Found) → IsChecking input a old all → IsNextOf limit a next b → next ≢ End → (why : Fault) → given ≡ found.Wrong why → FindsWrong input (all ++ given ∷ [])

-- ---- Of right replies that are no reports.

-- By the engine alone, the reply to the step is told so.
abbrev pub IsStepTold : EngineState → Step → Reply → Type 0
IsStepTold old asked answer = (said : StepReply) × (new : EngineState) × StepsTo old asked said new × (answer ≡ reply_of said)

-- a fragment for which the version has a form is taken by the step, and another one isn't
abbrev pub IsTakenTold : Version → EngineState → LoggedFragment → Step → Reply → Type 0
IsTakenTold version old logged asked answer =
    ((has_form version logged ≡ true) × IsStepTold old asked answer) ⊎ ((has_form version logged ≡ false) × (answer ≡ told.No BadLine))

-- a step is refused
abbrev pub IsRefusedBy : EngineState → Step → Reply → Type 0
IsRefusedBy old asked answer = (refusal : Refusal) × (new : EngineState) × StepsTo old asked (reply.Refused refusal) new × (answer ≡ told.No refusal)

-- By the engine alone: a right reply to the command that is no report.
abbrev pub Gives : Version → EngineState → Command → Reply → Type 0
Gives version old (Offer logged) answer = IsTakenTold version old logged (step.Offer logged) answer
Gives version old (Join logged) answer = IsTakenTold version old logged (step.Join logged) answer
Gives version old (Close session) answer = IsStepTold old (step.Close session) answer
Gives version old Begin answer = IsStepTold old step.Begin answer
Gives version old (Finish budget depth workers search) answer = (old.asked ≡ None) × (answer ≡ told.No NoRound)
Gives version old (Round budget depth workers search) answer = IsRefusedBy old step.Begin answer
Gives version old (Answer handed) answer = (other : Shown) × IsSameShown (Some handed) (Some other) × IsRefusedBy old (step.Judge (claim_of other)) answer
Gives version old Truncate answer = IsStepTold old step.Truncate answer
Gives version old Rebuild answer = IsStepTold old step.Rebuild answer
Gives version old Show answer = answer ≡ state_told old
Gives version old (Save wanted) answer = answer ≡ saved_told old.parts wanted
Gives version old command answer = answer ≡ told.No BadLine

-- the same of a finish where it may be made, and else this refusal
abbrev pub GivesWhere : Bool → Refusal → EngineState → Reply → Type 0
GivesWhere true refusal old answer = (old.asked ≡ None) × (answer ≡ told.No NoRound)
GivesWhere false refusal old answer = answer ≡ told.No refusal

-- The same where a search is under way, or none is. That one goes on is apart.
abbrev pub GivesBeside : Version → Bool → EngineState → Command → Reply → Type 0
GivesBeside version searched old (BeginSearch budget depth workers search) answer = (after : Bool) × BeginsSearch old.asked searched answer after
GivesBeside version searched old (Collect waits) answer = GivesWhere searched NoRound old answer
GivesBeside version searched old Skip answer = IsStepTold old step.Abandon answer
GivesBeside version searched old (Finish budget depth workers search) answer = GivesWhere (not searched) RoundOpen old answer
GivesBeside version searched old command answer = Gives version old command answer

-- the same where no engine is open
abbrev pub GivesFirst : Command → Reply → Type 0
GivesFirst (Start sessions limit (Resumable opening)) told.Done = MayBegin opening sessions limit
GivesFirst (Start sessions limit (Resumable opening)) (told.No refusal) = IsBeginningRefusal opening sessions limit refusal
GivesFirst (Start sessions limit promise) answer = ⊥
GivesFirst (Resume sessions limit opening) answer = ⊥
GivesFirst command answer = answer ≡ told.No BadLine

-- the same where transactions are split
abbrev pub GivesIsolated : Version → Bool → EngineState → Command → Reply → Type 0
GivesIsolated version searched old command answer =
    ((refusal : Refusal) × IsAskedFault (most_sessions version) command refusal × (answer ≡ told.No refusal))
    ⊎ (CanBeAsked (most_sessions version) command × (inner : Reply) × GivesBeside version searched old (split_command command) inner × (answer ≡ isolated_of inner))

-- by what a script asks
abbrev pub GivesIn : Opening → Bool → EngineState → Command → Reply → Type 0
GivesIn (Ordered version) searched old command answer = GivesBeside version searched old command answer
GivesIn (Isolated version) searched old command answer = GivesIsolated version searched old command answer

-- the same of a script
abbrev pub GivesScript : Option OpenScript → Command → Reply → Type 0
GivesScript None command answer = GivesFirst command answer
GivesScript (Some old) command answer = GivesIn old.opening old.searched old.engine command answer

-- What is owed is the one right reply of these, want of memory apart.
abbrev pub IsAlone : (Reply → Type 0) → Owed → Type 0
IsAlone P (owed.Reply given) = (answer : Reply) → P answer → (answer ≡ told.No NoMemory) ⊎ ((given ≡ told.No NoMemory) ⊎ (given ≡ answer))
IsAlone P (owed.Nothing why) = (answer : Reply) → P answer → answer ≡ told.No NoMemory

-- what is owed by halves, told of begins and commits
abbrev pub isolated_owed : Owed → Owed
isolated_owed (owed.Reply inner) = owed.Reply (isolated_of inner)
isolated_owed (owed.Nothing why) = owed.Nothing why

-- what is owed to a fragment is the reply to the step that takes it, or BadLine
abbrev pub IsTakenAs : Version → EngineState → LoggedFragment → Step → Owed → Type 0
IsTakenAs version old logged asked given =
    ((has_form version logged ≡ true) × IsToldOf old asked given) ⊎ ((has_form version logged ≡ false) × (given ≡ owed.Reply (told.No BadLine)))

-- A reply to the command that is found wrong is the text of no right reply that isn't a report, doesn't say that memory was wanting where that is
-- left out, and doesn't say that a search goes on where that may be told.
abbrev pub IsOtherwise : Option OpenScript → Command → List ℕ → Found → Type 0
IsOtherwise old command stored (found.Wrong why) =
    ((answer : Reply) → GivesScript old command answer → stored ≢ text_of answer) × (TakesMemory old command → stored ≢ text_of (told.No NoMemory)) × (MayGoOn old command → stored ≢ text_of told.Searching)
IsOtherwise old command stored given = ⊤

-- the same of a reply to what was read
abbrev pub IsOtherwiseTo : Option OpenScript → Next → List ℕ → Found → Type 0
IsOtherwiseTo old next stored (found.Wrong why) = (line : List ℕ) → IsTold line next →
    ((command : Command) → Asks (names_in old) line command → IsOtherwise old command stored (found.Wrong why))
    × (((command : Command) → ¬ Asks (names_in old) line command) → stored ≢ text_of (told.No BadLine))
IsOtherwiseTo old next stored given = ⊤

-- and of what was read behind it
abbrev pub IsOtherwiseNext : Option OpenScript → Next → Next → Found → Type 0
IsOtherwiseNext old line (Line stored) given = IsOtherwiseTo old line stored.items given
IsOtherwiseNext old line other given = ⊤
