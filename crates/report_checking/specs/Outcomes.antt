-- What a check of an input comes to, and what is written of it.
use Rattle.std.specs.Prelude.{◌≡◌, ℕ, ◌<◌, ◌⊎◌, Bool, true, false, List, ◌++◌, count_by, Option, IfSome}
use Rattle.std.specs.Io.KnownBytes.{Appends}
use Rattle.byte_lines.specs.Lines.{lines}
use Rattle.report_checking.specs.Checking.{Checks, FindsRight}
use Rattle.report_checking.specs.OwedLines.{ScriptState}
use Rattle.report_checking.specs.RightReports.{EndsAtWrong, EndsUnchecked, FindsWrong}
use Rattle.report_checking.specs.Telling.{AppendsFront, is_unchecked, lines_told, tally_of, told_of}
use Rattle.report_checking.specs.declared.findings.Found.{Found}
use Rattle.report_checking.specs.declared.texts.Tally.{Tally}
use Rattle.report_checking.specs.declared.findings.Outcome.{Outcome}
use Rattle.report_checking.specs.declared.findings.Outcome.TheVariants.{Right, Unchecked, Wrong}

-- This is found of the input's replies, by what the check comes to: each is right; or none is wrong, and some aren't checked, or nothing is owed
-- to the last one's line; or the last one found is wrong.
abbrev pub FindsAll : Outcome → List ℕ → List Found → Type 0
FindsAll Right input all = FindsRight input all × (count_by is_unchecked all ≡ 0)
FindsAll Unchecked input all = (FindsRight input all × (0 < count_by is_unchecked all)) ⊎ EndsUnchecked input all
FindsAll Wrong input all = EndsAtWrong input all

-- The first lines of the input are those of a script and right replies to them, by turns; and this is found of the replies.
pub record FindsRightFirst (input : List ℕ) (all : List Found) : Type 0 where
  pub front : List (List ℕ)
  pub left : List (List ℕ)
  pub split : lines input ≡ front ++ left
  pub state : Option ScriptState
  pub checks : Checks front state all

-- this is found of the input's first replies, of which the last one may not be right
abbrev pub FindsFirst : List ℕ → List Found → Type 0
FindsFirst input all = FindsRightFirst input all ⊎ FindsWrong input all

-- The text is what is written of the input's first replies, or of all that are checked, with the last line.
abbrev pub TellsFirst : List ℕ → List ℕ → Type 0
TellsFirst input text =
    ((all : List Found) × FindsFirst input all × (text ≡ lines_told 0 all))
    ⊎ ((all : List Found) × (outcome : Outcome) × FindsAll outcome input all × (text ≡ told_of all outcome))

-- What was found of all that was to be read is written, with the last line.
abbrev pub TellsAll : Outcome → Option (List ℕ) → Option (List ℕ) → Option (List ℕ) → Type 0
TellsAll outcome input before after = (all : List Found) × IfSome input (λ bytes. FindsAll outcome bytes all) × Appends before after (told_of all outcome)

-- A front is written of what is written of the first replies, or of all.
abbrev pub TellsPart : Option (List ℕ) → Option (List ℕ) → Option (List ℕ) → Type 0
TellsPart input before after = (text : List ℕ) × IfSome input (λ bytes. TellsFirst bytes text) × AppendsFront before after text

-- ---- For private clauses.

-- this is found of the input's replies, by whether none is wrong
abbrev pub FindsLines : Bool → List ℕ → List Found → Type 0
FindsLines true input all = FindsRight input all ⊎ EndsUnchecked input all
FindsLines false input all = EndsAtWrong input all

-- it is counted and written, without a last line
abbrev pub TellsLines : Bool → Option (List ℕ) → Tally → Option (List ℕ) → Option (List ℕ) → Type 0
TellsLines right input tally before after =
    (all : List Found) × (tally ≡ tally_of all) × IfSome input (λ bytes. FindsLines right bytes all) × Appends before after (lines_told 0 all)
