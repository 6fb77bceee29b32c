-- Scripts whose stored replies are right.
use Rattle.std.specs.Prelude.{◌≡◌, ℕ, ◌<◌, ⊤, false, List, [], ◌∷◌, ◌++◌, count_by, Option, Some, None}
use Rattle.txn.specs.declared.refusals.Refusal.TheVariants.{NoMemory}
use Rattle.log_text.specs.declared.commands.Command.{Command}
use Rattle.log_text.specs.declared.commands.Command.TheVariants.{Start, OfferTimed, Close, BeginSearch, Collect, Skip, Show, Resume, Marks, MarksBegun, Last, Resumed, Save}
use Rattle.log_text.specs.declared.versions.Promise.TheVariants.{Resumable}
use Rattle.log_text.specs.declared.replies.Reply.{Reply}
use Rattle.log_text.specs.declared.replies.Reply.TheVariants as told
use Rattle.log_text.specs.Replies.{text_of}
use Rattle.byte_lines.specs.Lines.{lines}
use Rattle.cobra.specs.Outputs.{Asks}
use Rattle.report_checking.specs.OwedLines.{OwesLine, ScriptState, names_told}
use Rattle.report_checking.specs.Telling.{is_unchecked, what_of}
use Rattle.report_checking.specs.declared.findings.Found.{Found}
use Rattle.report_checking.specs.declared.findings.Found.TheVariants as found

-- the stored reply to a line is the text of what is owed
pub record IsRightReply (old : Option ScriptState) (line stored : List ℕ) (new : Option ScriptState) : Type 0 where
  pub answer : Reply
  pub owed : OwesLine old line answer new
  pub text_is : stored ≡ text_of answer

-- a command that may be refused for want of memory, where no engine is open
abbrev pub OpensEngine : Command → Type 0
OpensEngine (Start sessions limit (Resumable opening)) = ⊤
OpensEngine command = ⊥

-- and where one is
abbrev pub AsksOfMemory : Command → Type 0
AsksOfMemory (Start sessions limit promise) = ⊥
AsksOfMemory (Close session) = ⊥
AsksOfMemory (BeginSearch budget depth workers search) = ⊥
AsksOfMemory Skip = ⊥
AsksOfMemory Show = ⊥
AsksOfMemory (Save wanted) = ⊥
AsksOfMemory (OfferTimed logged began ended) = ⊥
AsksOfMemory (Resume sessions limit opening) = ⊥
AsksOfMemory (Marks marks closed) = ⊥
AsksOfMemory (MarksBegun marks closed begun) = ⊥
AsksOfMemory (Last last) = ⊥
AsksOfMemory Resumed = ⊥
AsksOfMemory command = ⊤

abbrev pub TakesMemory : {X : Type 0} → Option X → Command → Type 0
TakesMemory None command = OpensEngine command
TakesMemory (Some open_one) command = AsksOfMemory command

-- What such a refusal leaves: a search that was to be collected is over, and else nothing has changed.
abbrev pub left_by : Command → Option ScriptState → Option ScriptState
left_by (Collect waits) (Some old) = Some (record old { searched = false })
left_by command old = old

-- The stored reply to a command says that memory was wanting, of which nothing is known.
pub record IsUnchecked (old : Option ScriptState) (line stored : List ℕ) (new : Option ScriptState) : Type 0 where
  pub command : Command
  pub asks : Asks (names_told old) line command
  pub takes : TakesMemory old command
  pub text_is : stored ≡ text_of (told.No NoMemory)
  pub left : new ≡ left_by command old

-- From the beginning of a script on: lines and stored replies by turns, each of which is right, or says that memory was wanting; what they
-- lead to; and what is found of the replies: of a right one what it tells, as a report of some kind, and of another that it isn't checked.
pub data Checks : List (List ℕ) → Option ScriptState → List Found → Type 0 where
  start : Checks [] None []
  right : (front : List (List ℕ)) (line stored : List ℕ) (at new : Option ScriptState) (all : List Found)
      → Checks front at all → (reply : IsRightReply at line stored new)
      → Checks (front ++ line ∷ stored ∷ []) new (all ++ found.Right (what_of reply.answer) ∷ [])
  unchecked : (front : List (List ℕ)) (line stored : List ℕ) (at new : Option ScriptState) (all : List Found)
      → Checks front at all → IsUnchecked at line stored new
      → Checks (front ++ line ∷ stored ∷ []) new (all ++ found.Unchecked ∷ [])

-- All lines of the input are the lines of a script and right replies to them, by turns; and this is found of the replies.
abbrev pub FindsRight : List ℕ → List Found → Type 0
FindsRight input all = (end : Option ScriptState) × Checks (lines input) end all

-- the same, and each reply is right
abbrev pub IsAllRight : List ℕ → Type 0
IsAllRight input = (all : List Found) × FindsRight input all × (count_by is_unchecked all ≡ 0)

-- The same, but some of the replies say that memory was wanting, and the others are right.
abbrev pub IsRightSoFar : List ℕ → Type 0
IsRightSoFar input = (all : List Found) × FindsRight input all × (0 < count_by is_unchecked all)
