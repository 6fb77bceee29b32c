-- The output of a script: a line for each of its lines.
use Rattle.std.specs.Prelude.{◌≡◌, ℕ, ◌-◌, ◌<◌, ◌≤◌, ◌⊎◌, List, [], ◌∷◌, ◌++◌, length, take, slice_get, Option, Some, IfSome}
use Rattle.std.specs.Io.KnownBytes.{Appends}
use Rattle.std.specs.List.{concat}
use Rattle.log_text.specs.declared.commands.Command.{Command}
use Rattle.log_text.specs.declared.names.Names.{Names}
use Rattle.log_text.specs.declared.names.Names.TheVariants.{Ids}
use Rattle.log_text.specs.declared.replies.Reply.{Reply}
use Rattle.log_text.specs.Commands.{IsCommand}
use Rattle.log_text.specs.Replies.{line_of}
use Rattle.log_text.specs.Versions.{names_of}
use Rattle.byte_lines.specs.declared.lines.Next.{Next}
use Rattle.byte_lines.specs.declared.lines.Next.TheVariants.{Line, TooLong, End}
use Rattle.byte_lines.specs.Lines.{lines, lf_count}
use Rattle.cobra.specs.Scripts.{IsBadLine, Answers}
use Rattle.cobra.specs.declared.stages.Stage.{Stage}
use Rattle.cobra.specs.declared.stages.Stage.TheVariants.{Nothing, Open}

-- How the lines of a script name transactions: by ids, where no engine is open yet.
abbrev pub names_at : Stage → Names
names_at (Open audit opening) = names_of opening
names_at other = Ids

-- the line is the command, where lines name transactions by these names, and isn't too long for one
pub record Asks (names : Names) (line : List ℕ) (command : Command) : Type 0 where
  pub short : length line ≤ 8388608
  pub is : IsCommand names line command

-- The reply to a line is the one to its command, and BadLine where it is none.
abbrev pub IsAnswered : Stage → List ℕ → Reply → Stage → Type 0
IsAnswered old line answer new =
    ((command : Command) × Asks (names_at old) line command × Answers old command answer new)
    ⊎ (((command : Command) → ¬ Asks (names_at old) line command) × IsBadLine old answer new)

-- the text of the reply to a line, and what the line leads to
pub record Replies (old : Stage) (line text : List ℕ) (new : Stage) : Type 0 where
  pub answer : Reply
  pub answered : IsAnswered old line answer new
  pub text_is : text ≡ line_of answer

-- line after line
abbrev pub RepliesAll : Stage → List (List ℕ) → List (List ℕ) → Stage → Type 0
RepliesAll old [] [] new = new ≡ old
RepliesAll old (line ∷ rest) (text ∷ texts) new = (between : Stage) × Replies old line text between × RepliesAll between rest texts new
RepliesAll old [] (text ∷ texts) new = ⊥
RepliesAll old (line ∷ rest) [] new = ⊥

-- the joined texts of replies to these lines, from the first of a script on
abbrev pub IsOutputOf : List (List ℕ) → List ℕ → Stage → Type 0
IsOutputOf asked output end = (texts : List (List ℕ)) × RepliesAll Nothing asked texts end × (output ≡ concat texts)

-- the joined texts of replies to all lines of the input
abbrev pub IsOutput : List ℕ → List ℕ → Type 0
IsOutput input output = (end : Stage) × IsOutputOf (lines input) output end

-- Where it is told what was to be read, something that is an output of it in this sense was written.
abbrev pub Writes : (List ℕ → List ℕ → Type 0) → Option (List ℕ) → Option (List ℕ) → Option (List ℕ) → Type 0
Writes IsOf input before after = IfSome input (λ script. (output : List ℕ) × IsOf script output × Appends before after output)

-- how many lines were read to their end, which is an LF (10) or the end of input
abbrev pub lines_read : List ℕ → List ℕ → ℕ
lines_read read [] = length (lines read)
lines_read read left = lf_count read

-- The input was read so far, and the output answers so many of its lines, each of which was read to its end.
pub record AnswersFront (input : List ℕ) (left : Option (List ℕ)) (output : List ℕ) (count : ℕ) (state : Stage) : Type 0 where
  pub read : List ℕ
  pub rest : List ℕ
  pub left_is : left ≡ Some rest
  pub input_is : input ≡ read ++ rest
  pub were_read : count ≤ lines_read read rest
  pub answers : IsOutputOf (take count (lines input)) output state

-- where memory was wanting: the output is whole replies
abbrev pub StopsForMemory : List ℕ → Option (List ℕ) → List ℕ → Type 0
StopsForMemory input left output = (count : ℕ) × (state : Stage) × AnswersFront input left output count state

-- where a read failed: besides, each line whose LF was read is answered
abbrev pub StopsReading : List ℕ → Option (List ℕ) → List ℕ → Type 0
StopsReading input left output = (count : ℕ) × (state : Stage) × (front : AnswersFront input left output count state) × (lf_count front.read ≤ count)

-- Where a write failed: the output is whole replies, and a proper front of the reply to the next line, which was read to
-- its end as well. Nothing was read after that: without what the last read gave, only the lines before it were read to an LF.
pub record StopsWriting (input : List ℕ) (left : Option (List ℕ)) (last_read : ℕ) (output : List ℕ) : Type 0 where
  pub count : ℕ
  pub state : Stage
  pub whole : List ℕ
  pub front : AnswersFront input left whole count state
  pub line : List ℕ
  pub line_is : slice_get (lines input) count ≡ Some line
  pub line_read : count < lines_read front.read front.rest
  pub prompt : lf_count (take (length front.read - last_read) front.read) ≤ count
  pub text : List ℕ
  pub after : Stage
  pub reply : Replies state line text after
  pub written : ℕ
  pub part : written < length text
  pub output_is : output ≡ whole ++ take written text

-- the line that is told to be next, or told to be too long
abbrev pub IsTold : List ℕ → Next → Type 0
IsTold line (Line bytes) = (bytes.items ≡ line) × (length line ≤ 8388608)
IsTold line TooLong = 8388608 < length line
IsTold line End = ⊥

-- the reply to what was read, and what it leads to
abbrev pub AnswersNext : Stage → Next → Reply → Stage → Type 0
AnswersNext old next answer new = (line : List ℕ) → IsTold line next → IsAnswered old line answer new

-- the same of the reply's text
abbrev pub RepliesTo : Stage → Next → List ℕ → Stage → Type 0
RepliesTo old next text new = (line : List ℕ) → IsTold line next → Replies old line text new

-- it is written
abbrev pub WritesReply : Stage → Next → Stage → Option (List ℕ) → Option (List ℕ) → Type 0
WritesReply old next new before after = (text : List ℕ) × RepliesTo old next text new × Appends before after text

-- or a proper front of it is
abbrev pub WritesFrontOfReply : Stage → Next → Stage → Option (List ℕ) → Option (List ℕ) → Type 0
WritesFrontOfReply old next new before after = (text : List ℕ) × (n : ℕ) × RepliesTo old next text new × (n < length text) × Appends before after (take n text)
