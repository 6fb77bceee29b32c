-- What is written of stored replies, by what was found of them: a line of each report, each cut and each reply that isn't right or isn't
-- checked, and a last one that counts what was checked.
use Rattle.std.specs.Prelude.{◌≡◌, ℕ, ◌+◌, ◌-◌, ◌^◌, ◌==◌, Bool, true, false, if◌then◌else◌, min, List, [], ◌∷◌, ◌++◌, length, count_by, codes, Option, Some, None}
use Rattle.std.specs.Fmt.{decimal}
use Rattle.order_check.specs.declared.remainder.Kind.TheVariants as kinds
use Rattle.log_text.specs.declared.replies.Reply.{Reply}
use Rattle.log_text.specs.declared.replies.Reply.TheVariants as told
use Rattle.std.specs.Io.KnownBytes.{Appends}
use Rattle.report_checking.specs.declared.findings.Fault.{Fault}
use Rattle.report_checking.specs.declared.findings.Fault.TheVariants as fault
use Rattle.report_checking.specs.declared.findings.Found.{Found}
use Rattle.report_checking.specs.declared.findings.Found.TheVariants as found
use Rattle.report_checking.specs.declared.findings.Outcome.{Outcome}
use Rattle.report_checking.specs.declared.findings.Outcome.TheVariants as outcomes
use Rattle.report_checking.specs.declared.findings.Unshown.TheVariants as unshown
use Rattle.report_checking.specs.declared.findings.What.{What}
use Rattle.report_checking.specs.declared.findings.What.TheVariants as what
use Rattle.report_checking.specs.declared.texts.Tally.{Tally}

-- what a reply tells
abbrev pub what_of : Reply → What
what_of (told.Order names round kind counts order) = what.Report kind
what_of (told.Violated names round counts tree) = what.Report kinds.Violated
what_of (told.Spent round counts) = what.Report kinds.Spent
what_of (told.Cut fence gone last) = what.Cut
what_of other = what.Other

-- a number as it is counted: up to the greatest one
abbrev pub as_counted : ℕ → ℕ
as_counted n = min n (2 ^ 64 - 1)

-- a right report that isn't spent
abbrev pub is_report : Found → Bool
is_report (found.Right (what.Report kinds.Spent)) = false
is_report (found.Right (what.Report kind)) = true
is_report other = false

abbrev pub is_spent : Found → Bool
is_spent (found.Right (what.Report kinds.Spent)) = true
is_spent other = false

-- Nothing is owed to the line, whatever is replied: what its script begins with isn't checked.
abbrev pub owes_nothing : Fault → Bool
owes_nothing (fault.Unshown unshown.Beginning) = true
owes_nothing (fault.Unshown unshown.Strict) = true
owes_nothing other = false

abbrev pub is_unchecked : Found → Bool
is_unchecked found.Unchecked = true
is_unchecked (found.Wrong why) = owes_nothing why
is_unchecked (found.Right what) = false

-- How many replies there are, and of them how many reports, spent ones by themselves, and how many that aren't checked.
abbrev pub tally_of : List Found → Tally
tally_of all = record {
  replies = as_counted (length all);
  reports = as_counted (count_by is_report all);
  spent = as_counted (count_by is_spent all);
  unchecked = as_counted (count_by is_unchecked all);
}

-- the words for a reply that is right, where it has a line
abbrev pub words_of : What → Option (List ℕ)
words_of (what.Report kinds.Spent) = Some (codes "spent, which claims nothing")
words_of (what.Report kinds.Serial) = Some (codes "serial, right")
words_of (what.Report kinds.Pending) = Some (codes "pending, right")
words_of (what.Report kinds.Violated) = Some (codes "violated, right")
words_of what.Cut = Some (codes "cut, right")
words_of what.Other = None

-- the words for one that isn't right: where another one is owed, its text
abbrev pub words_of_fault : Fault → List ℕ
words_of_fault (fault.Other text) = codes "wrong: owed is "
words_of_fault (fault.Unshown unshown.Order) = codes "wrong: its order doesn't explain what had been accepted"
words_of_fault (fault.Unshown unshown.Refutation) = codes "wrong: it refutes nothing of what had been accepted"
words_of_fault (fault.Unshown unshown.Beginning) = codes "not checked: its script resumes another, and what had gone before isn't shown"
words_of_fault (fault.Unshown unshown.Strict) = codes "not checked: its script asks for strict serializability"
words_of_fault fault.Missing = codes "wrong: the line has no reply"
words_of_fault fault.TooLong = codes "wrong: it is too long to be read"

abbrev pub text_owed : Fault → List ℕ
text_owed (fault.Other text) = text.items
text_owed other = []

-- the line of a reply by its number, with these words
abbrev pub numbered : ℕ → List ℕ → List ℕ → List ℕ
numbered number words more = (codes "reply " ++ (decimal number ++ (codes " " ++ words))) ++ (more ++ codes "\n")

abbrev pub numbered_or_none : ℕ → Option (List ℕ) → List ℕ
numbered_or_none number None = []
numbered_or_none number (Some words) = numbered number words []

-- the line of what was found of the reply with this number, where it has one
abbrev pub found_line : ℕ → Found → List ℕ
found_line number (found.Right told_to_be) = numbered_or_none number (words_of told_to_be)
found_line number found.Unchecked = numbered number (codes "not checked: memory was wanting") []
found_line number (found.Wrong why) = numbered number (words_of_fault why) (text_owed why)

-- what the check comes to
abbrev pub outcome_word : Outcome → List ℕ
outcome_word outcomes.Right = codes "right"
outcome_word outcomes.Unchecked = codes "unchecked"
outcome_word outcomes.Wrong = codes "wrong"

-- the last line
abbrev pub last_line : Tally → Outcome → List ℕ
last_line tally outcome =
    outcome_word outcome ++ (codes ": replies " ++ (decimal tally.replies ++ (codes " reports " ++ (decimal tally.reports
    ++ (codes " spent " ++ (decimal tally.spent ++ (codes " not-checked " ++ (decimal tally.unchecked ++ codes "\n"))))))))

-- The lines of one reply after another, each by its number. So many replies went before.
abbrev pub lines_told : ℕ → List Found → List ℕ
lines_told before [] = []
lines_told before (given ∷ all) = found_line (as_counted (before + 1)) given ++ lines_told (before + 1) all

-- the lines of all replies, and the last line
abbrev pub told_of : List Found → Outcome → List ℕ
told_of all outcome = lines_told 0 all ++ last_line (tally_of all) outcome

-- a front of the text was written
abbrev pub AppendsFront : Option (List ℕ) → Option (List ℕ) → List ℕ → Type 0
AppendsFront before after text = (written : List ℕ) × (rest : List ℕ) × (text ≡ written ++ rest) × Appends before after written

-- ---- For private clauses.

-- one more, up to the greatest number
abbrev pub one_more : ℕ → ℕ
one_more n = as_counted (n + 1)

-- what a check comes to that has counted so much, by whether none is wrong
abbrev pub outcome_of : Tally → Bool → Outcome
outcome_of tally false = outcomes.Wrong
outcome_of tally true = if tally.unchecked == 0 then outcomes.Right else outcomes.Unchecked

-- nothing was checked
abbrev pub no_tally : Tally
no_tally = record { replies = 0; reports = 0; spent = 0; unchecked = 0 }

-- a reply more
abbrev pub counted : Tally → Found → Tally
counted tally (found.Right (what.Report kinds.Spent)) = record tally { replies = one_more tally.replies; spent = one_more tally.spent }
counted tally (found.Right (what.Report kind)) = record tally { replies = one_more tally.replies; reports = one_more tally.reports }
counted tally found.Unchecked = record tally { replies = one_more tally.replies; unchecked = one_more tally.unchecked }
counted tally (found.Wrong why) = record tally { replies = one_more tally.replies; unchecked = if owes_nothing why then one_more tally.unchecked else tally.unchecked }
counted tally other = record tally { replies = one_more tally.replies }

-- what is counted and written of what was found of the next line's reply, where there is a next line
abbrev pub TellsNext : Option Found → Tally → Tally → Option (List ℕ) → Option (List ℕ) → Type 0
TellsNext None old new before after = (new ≡ old) × Appends before after []
TellsNext (Some given) old new before after = (new ≡ counted old given) × Appends before after (found_line new.replies given)
