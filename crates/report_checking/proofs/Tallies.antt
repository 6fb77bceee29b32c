-- What is counted and told of one reply more.
use Rattle.std.proofs.Common.{◌≡◌, ℕ, ◌+◌, cond, if◌then◌else◌, Bool, true, false, List, [], ◌∷◌, ◌++◌, length, count_by, append_assoc, append-nil, refl, ap, sym, ◌∙◌, arith}
use Rattle.std.proofs.lemmas.List.{length-append}
use Rattle.std.proofs.lemmas.List.Sums.{sum_by_push}
use Rattle.order_check.specs.declared.remainder.Kind.TheVariants as kinds
use Rattle.report_checking.specs.Telling.{as_counted, one_more, counted, owes_nothing, tally_of, no_tally, is_report, is_spent, is_unchecked, lines_told, found_line}
use Rattle.report_checking.specs.declared.findings.Found.{Found}
use Rattle.report_checking.specs.declared.findings.Found.TheVariants as found
use Rattle.report_checking.specs.declared.findings.What.TheVariants as what
use Rattle.report_checking.specs.declared.texts.Tally.{Tally}

as_more : (n : ℕ) → as_counted (as_counted n + 1) ≡ as_counted (n + 1)
as_more n = omega arith

-- how many there are, with one more
pub length_push : (all : List Found) (given : Found) → length (all ++ given ∷ []) ≡ length all + 1
length_push all given = length-append all (given ∷ [])

number_push : (all : List Found) (given : Found) → as_counted (length (all ++ given ∷ [])) ≡ as_counted (as_counted (length all) + 1)
number_push all given = ap as_counted (length_push all given) ∙ sym (as_more (length all))

count_yes : (p : Found → Bool) (all : List Found) (given : Found) → p given ≡ true → as_counted (count_by p (all ++ given ∷ [])) ≡ as_counted (as_counted (count_by p all) + 1)
count_yes p all given passes = ap as_counted (sum_by_push (λ x. cond (p x) 1 0) all given ∙ ap (λ (b : Bool). count_by p all + cond b 1 0) passes) ∙ sym (as_more (count_by p all))

count_no : (p : Found → Bool) (all : List Found) (given : Found) → p given ≡ false → as_counted (count_by p (all ++ given ∷ [])) ≡ as_counted (count_by p all)
count_no p all given fails = ap as_counted (sum_by_push (λ x. cond (p x) 1 0) all given ∙ ap (λ (b : Bool). count_by p all + cond b 1 0) fails ∙ omega arith)

abbrev tally : ℕ → ℕ → ℕ → ℕ → Tally
tally replies reports spent unchecked = record { replies = replies; reports = reports; spent = spent; unchecked = unchecked }

same_tally : (one two : Tally) → one.replies ≡ two.replies → one.reports ≡ two.reports → one.spent ≡ two.spent → one.unchecked ≡ two.unchecked → one ≡ two
same_tally one two a b c d =
    ap (λ n. tally n one.reports one.spent one.unchecked) a ∙ ap (λ n. tally two.replies n one.spent one.unchecked) b
    ∙ ap (λ n. tally two.replies two.reports n one.unchecked) c ∙ ap (λ n. tally two.replies two.reports two.spent n) d

pub counted_push : (all : List Found) (given : Found) → tally_of (all ++ given ∷ []) ≡ counted (tally_of all) given
counted_push all (found.Right (what.Report kinds.Spent)) = same_tally (tally_of (all ++ (found.Right (what.Report kinds.Spent)) ∷ [])) (counted (tally_of all) (found.Right (what.Report kinds.Spent))) (number_push all (found.Right (what.Report kinds.Spent))) (count_no is_report all (found.Right (what.Report kinds.Spent)) refl) (count_yes is_spent all (found.Right (what.Report kinds.Spent)) refl) (count_no is_unchecked all (found.Right (what.Report kinds.Spent)) refl)
counted_push all (found.Right (what.Report kinds.Serial)) = same_tally (tally_of (all ++ (found.Right (what.Report kinds.Serial)) ∷ [])) (counted (tally_of all) (found.Right (what.Report kinds.Serial))) (number_push all (found.Right (what.Report kinds.Serial))) (count_yes is_report all (found.Right (what.Report kinds.Serial)) refl) (count_no is_spent all (found.Right (what.Report kinds.Serial)) refl) (count_no is_unchecked all (found.Right (what.Report kinds.Serial)) refl)
counted_push all (found.Right (what.Report kinds.Pending)) = same_tally (tally_of (all ++ (found.Right (what.Report kinds.Pending)) ∷ [])) (counted (tally_of all) (found.Right (what.Report kinds.Pending))) (number_push all (found.Right (what.Report kinds.Pending))) (count_yes is_report all (found.Right (what.Report kinds.Pending)) refl) (count_no is_spent all (found.Right (what.Report kinds.Pending)) refl) (count_no is_unchecked all (found.Right (what.Report kinds.Pending)) refl)
counted_push all (found.Right (what.Report kinds.Violated)) = same_tally (tally_of (all ++ (found.Right (what.Report kinds.Violated)) ∷ [])) (counted (tally_of all) (found.Right (what.Report kinds.Violated))) (number_push all (found.Right (what.Report kinds.Violated))) (count_yes is_report all (found.Right (what.Report kinds.Violated)) refl) (count_no is_spent all (found.Right (what.Report kinds.Violated)) refl) (count_no is_unchecked all (found.Right (what.Report kinds.Violated)) refl)
counted_push all (found.Right what.Cut) = same_tally (tally_of (all ++ (found.Right what.Cut) ∷ [])) (counted (tally_of all) (found.Right what.Cut)) (number_push all (found.Right what.Cut)) (count_no is_report all (found.Right what.Cut) refl) (count_no is_spent all (found.Right what.Cut) refl) (count_no is_unchecked all (found.Right what.Cut) refl)
counted_push all (found.Right what.Other) = same_tally (tally_of (all ++ (found.Right what.Other) ∷ [])) (counted (tally_of all) (found.Right what.Other)) (number_push all (found.Right what.Other)) (count_no is_report all (found.Right what.Other) refl) (count_no is_spent all (found.Right what.Other) refl) (count_no is_unchecked all (found.Right what.Other) refl)
counted_push all found.Unchecked = same_tally (tally_of (all ++ found.Unchecked ∷ [])) (counted (tally_of all) found.Unchecked) (number_push all found.Unchecked) (count_no is_report all found.Unchecked refl) (count_no is_spent all found.Unchecked refl) (count_yes is_unchecked all found.Unchecked refl)
counted_push all (found.Wrong why) = by_owed (owes_nothing why) refl
  where
    by_owed : (b : Bool) → owes_nothing why ≡ b → tally_of (all ++ found.Wrong why ∷ []) ≡ counted (tally_of all) (found.Wrong why)
    by_owed true is = same_tally (tally_of (all ++ (found.Wrong why) ∷ [])) (counted (tally_of all) (found.Wrong why)) (number_push all (found.Wrong why)) (count_no is_report all (found.Wrong why) refl) (count_no is_spent all (found.Wrong why) refl) (count_yes is_unchecked all (found.Wrong why) is ∙ sym (ap (λ (b : Bool). if b then one_more (tally_of all).unchecked else (tally_of all).unchecked) is))
    by_owed false is = same_tally (tally_of (all ++ (found.Wrong why) ∷ [])) (counted (tally_of all) (found.Wrong why)) (number_push all (found.Wrong why)) (count_no is_report all (found.Wrong why) refl) (count_no is_spent all (found.Wrong why) refl) (count_no is_unchecked all (found.Wrong why) is ∙ sym (ap (λ (b : Bool). if b then one_more (tally_of all).unchecked else (tally_of all).unchecked) is))

pub counted_none : tally_of [] ≡ no_tally
counted_none = refl

lines_from : (before : ℕ) (all : List Found) (given : Found) → lines_told before (all ++ given ∷ []) ≡ lines_told before all ++ found_line (as_counted (before + length all + 1)) given
lines_from before [] given = append-nil (found_line (as_counted (before + 1)) given) ∙ ap (λ n. found_line (as_counted n) given) (omega arith)
lines_from before (first ∷ all) given =
    let line : List ℕ = found_line (as_counted (before + 1)) first in
    ap (λ ls. line ++ ls) (lines_from (before + 1) all given)
    ∙ ap (λ n. line ++ (lines_told (before + 1) all ++ found_line (as_counted n) given)) (omega arith)
    ∙ sym (append_assoc line (lines_told (before + 1) all) (found_line (as_counted (before + length (first ∷ all) + 1)) given))

-- the line of one reply more comes behind the others, with the number that is counted
pub lines_push : (all : List Found) (given : Found) → lines_told 0 (all ++ given ∷ []) ≡ lines_told 0 all ++ found_line (one_more (tally_of all).replies) given
lines_push all given =
    lines_from 0 all given ∙ ap (λ n. lines_told 0 all ++ found_line n given) (ap as_counted (omega arith) ∙ sym (as_more (length all)))

pub number_counted : (tally : Tally) (given : Found) → (counted tally given).replies ≡ one_more tally.replies
number_counted tally (found.Right (what.Report kinds.Spent)) = refl
number_counted tally (found.Right (what.Report kind)) = refl
number_counted tally (found.Right what.Cut) = refl
number_counted tally (found.Right what.Other) = refl
number_counted tally found.Unchecked = refl
number_counted tally (found.Wrong why) = refl
