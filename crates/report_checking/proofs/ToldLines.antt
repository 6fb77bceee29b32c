-- What is written of one reply after another.
use Rattle.std.proofs.Common.{◌≡◌, ◌≢◌, ℕ, zero, suc, ◌+◌, ◌<◌, ◌==◌, cond, length, List, [], ◌∷◌, ◌++◌, count_by, Option, Some, None, Bool, true, false, if◌then◌else◌, IfSome, refl, ap, sym, ◌∙◌, subst, append-nil, inl, inr, arith}
use Rattle.std.specs.Io.KnownBytes.{Appends}
use Rattle.std.proofs.KnownBytes.{Appends-nil, Appends-trans}
use Rattle.std.proofs.lemmas.Bool.Decides.{eqb_tells}
use Rattle.std.proofs.lemmas.List.{length-append}
use Rattle.std.proofs.lemmas.List.Sums.{sum_by_push}
use Rattle.byte_lines.specs.declared.lines.Next.{Next}
use Rattle.byte_lines.specs.declared.lines.Next.TheVariants.{End}
use Rattle.byte_lines.specs.LineReaders.{IsNextOf}
use Rattle.byte_lines.specs.Lines.{lines}
use Rattle.report_checking.specs.Checking.{FindsRight, IsAllRight, start}
use Rattle.report_checking.specs.Outcomes.{FindsAll, FindsLines, TellsFirst}
use Rattle.report_checking.specs.Reading.{Advances, IsChecking, IsFine, LeadsOn, StopsOn, TellsFront}
use Rattle.report_checking.specs.RightReports.{EndsUnchecked, FindsWrong, IsRightUnlessUnchecked, StopsAtWrong}
use Rattle.report_checking.specs.Telling.{AppendsFront, TellsNext, as_counted, counted, found_line, is_unchecked, last_line, lines_told, no_tally, one_more, outcome_of, owes_nothing, tally_of, told_of}
use Rattle.report_checking.specs.declared.findings.Fault.{Fault}
use Rattle.report_checking.specs.declared.findings.Found.{Found}
use Rattle.report_checking.specs.declared.findings.Found.TheVariants as found
use Rattle.report_checking.specs.declared.findings.Outcome.{Outcome}
use Rattle.report_checking.specs.declared.findings.Outcome.TheVariants as outcomes
use Rattle.report_checking.specs.declared.open_scripts.OpenScript.{OpenScript}
use Rattle.report_checking.specs.declared.texts.Tally.{Tally}
use Rattle.report_checking.proofs.CheckedLines.{advances_fine, advances_to, first_of, may_find}
use Rattle.report_checking.proofs.Fronts.{front_all, front_behind}
use Rattle.report_checking.proofs.Tallies.{counted_push, lines_push, number_counted}

-- So far this was found, counted and written, and, where it is told what was left, checked.
pub record HasTold (left : Option (List ℕ)) (ahead : Option (List (List ℕ))) (script : Option OpenScript) (tally : Tally) (before after : Option (List ℕ)) : Type 0 where
  pub all : List Found
  pub counts : tally ≡ tally_of all
  pub writes : Appends before after (lines_told 0 all)
  pub checks : (input : List ℕ) → left ≡ Some input → IsChecking input ahead script all

-- at the end this was found, counted and written
abbrev pub EndsTold : Bool → Option (List ℕ) → Tally → Option (List ℕ) → Option (List ℕ) → Type 0
EndsTold right left tally before after = (all : List Found) × (tally ≡ tally_of all) × IfSome left (λ input. FindsLines right input all) × Appends before after (lines_told 0 all)

-- a front was written of what is written of the first replies
abbrev pub FailsTold : Option (List ℕ) → Option (List ℕ) → Option (List ℕ) → Type 0
FailsTold left before after = (text : List ℕ) × IfSome left (λ input. TellsFirst input text) × AppendsFront before after text

if_some : (left : Option (List ℕ)) (P : List ℕ → Type 0) → ((input : List ℕ) → left ≡ Some input → P input) → IfSome left P
if_some None P is = tt
if_some (Some input) P is = is input refl

pub told_none : (left : Option (List ℕ)) (ahead : Option (List (List ℕ))) (script : Option OpenScript) (tally : Tally) (before : Option (List ℕ)) → tally ≡ no_tally → ((input : List ℕ) → left ≡ Some input → IsChecking input ahead script []) → HasTold left ahead script tally before before
told_none left ahead script tally before is checks = record { all = []; counts = is; writes = Appends-nil before; checks = checks }

-- one more is counted
counted_next : (old new : Tally) (all : List Found) (given : Found) → old ≡ tally_of all → new ≡ counted old given → new ≡ tally_of (all ++ given ∷ [])
counted_next old new all given so is = is ∙ ap (λ (t : Tally). counted t given) so ∙ sym (counted_push all given)

-- and its line written
written_next : (old new : Tally) (all : List Found) (given : Found) (first before after : Option (List ℕ)) → old ≡ tally_of all → new ≡ counted old given → Appends first before (lines_told 0 all) → Appends before after (found_line new.replies given) → Appends first after (lines_told 0 (all ++ given ∷ []))
written_next old new all given first before after so is was writes =
    let number : new.replies ≡ one_more (tally_of all).replies = ap (λ (t : Tally). t.replies) is ∙ number_counted old given ∙ ap (λ (t : Tally). one_more t.replies) so in
    subst (Appends first after) (ap (λ n. lines_told 0 all ++ found_line n given) number ∙ sym (lines_push all given))
    (Appends-trans first before after (lines_told 0 all) (found_line new.replies given) was writes)

-- one more reply that isn't wrong
pub told_more : (left : Option (List ℕ)) (a c : Option (List (List ℕ))) (script after_script : Option OpenScript) (old new : Tally) (first before after : Option (List ℕ)) (next : Option Found) (given : Found) → next ≡ Some given → IsFine given
    → HasTold left a script old first before → TellsNext next old new before after → Advances a script next c after_script → HasTold left c after_script new first after
told_more left a c script after_script old new first before after next given is fine so tells advances =
    let tells_it = subst (λ (it : Option Found). TellsNext it old new before after) is tells in
    let advances_it = subst (λ (it : Option Found). Advances a script it c after_script) is advances in record {
      all = so.all ++ given ∷ [];
      counts = counted_next old new so.all given so.counts tells_it.0;
      writes = written_next old new so.all given first before after so.counts tells_it.0 so.writes tells_it.1;
      checks = λ input told. advances_fine a c given script after_script fine advances_it input so.all (so.checks input told);
    }

-- the last of two equal lists
last_same : (xs ys : List Found) (a b : Found) → xs ++ a ∷ [] ≡ ys ++ b ∷ [] → a ≡ b
last_same [] [] a b same = cc
last_same [] (y ∷ ys) a b same = absurd (let long = ap length same ∙ ap suc (length-append ys (b ∷ [])) in omega (arith, long))
last_same (x ∷ xs) [] a b same = absurd (let long = sym (ap suc (length-append xs (a ∷ []))) ∙ ap length same in omega (arith, long))
last_same (x ∷ xs) (y ∷ ys) a b same = last_same xs ys a b (let rest : xs ++ a ∷ [] ≡ ys ++ b ∷ [] = cc in rest)

-- what was found last is what isn't right
why_last : (input : List ℕ) (all : List Found) (why : Fault) → (finds : FindsWrong input (all ++ found.Wrong why ∷ [])) → owes_nothing finds.why ≡ owes_nothing why
why_last input all why finds =
    let last : found.Wrong why ≡ found.Wrong finds.why = last_same all finds.right (found.Wrong why) (found.Wrong finds.why) finds.all_is in
    let same : finds.why ≡ why = cc in
    ap owes_nothing same

ends_by : (owed_none : Bool) (input : List ℕ) (all : List Found) (why : Fault) → owes_nothing why ≡ owed_none → FindsWrong input (all ++ found.Wrong why ∷ []) → FindsLines owed_none input (all ++ found.Wrong why ∷ [])
ends_by true input all why is finds = inr (finds, why_last input all why finds ∙ is)
ends_by false input all why is finds = (finds, why_last input all why finds ∙ is)

-- one more that isn't right
pub told_wrong : (left : Option (List ℕ)) (a c : Option (List (List ℕ))) (script after_script : Option OpenScript) (old new : Tally) (first before after : Option (List ℕ)) (next : Option Found) (given : Found) (why : Fault) (owed_none : Bool) → next ≡ Some given → given ≡ found.Wrong why → owed_none ≡ owes_nothing why
    → HasTold left a script old first before → TellsNext next old new before after → Advances a script next c after_script → EndsTold owed_none left new first after
told_wrong left a c script after_script old new first before after next given why owed_none is wrong owes so tells advances =
    let same : next ≡ Some (found.Wrong why) = is ∙ ap (λ (it : Found). Some it) wrong in
    let tells_it = subst (λ (it : Option Found). TellsNext it old new before after) same tells in
    let advances_it = subst (λ (it : Option Found). Advances a script it c after_script) same advances in (
      so.all ++ found.Wrong why ∷ [],
      counted_next old new so.all (found.Wrong why) so.counts tells_it.0,
      if_some left (λ input. FindsLines owed_none input (so.all ++ found.Wrong why ∷ [])) (λ input told. ends_by owed_none input so.all why (sym owes) (advances_it input so.all (so.checks input told))),
      written_next old new so.all (found.Wrong why) first before after so.counts tells_it.0 so.writes tells_it.1,
    )

pub told_end : (left : Option (List ℕ)) (a c : Option (List (List ℕ))) (script after_script : Option OpenScript) (old new : Tally) (first before after : Option (List ℕ)) → HasTold left a script old first before → TellsNext None old new before after → Advances a script None c after_script → EndsTold true left new first after
told_end left a c script after_script old new first before after so tells advances = (
  so.all,
  tells.0 ∙ so.counts,
  if_some left (λ input. FindsLines true input so.all) (λ input is. inl (advances input so.all (so.checks input is))),
  subst (Appends first after) (append-nil (lines_told 0 so.all)) (Appends-trans first before after (lines_told 0 so.all) [] so.writes tells.1),
)

pub told_front : (left : Option (List ℕ)) (a : Option (List (List ℕ))) (script : Option OpenScript) (tally : Tally) (first before after : Option (List ℕ)) → HasTold left a script tally first before → TellsFront a script tally before after → FailsTold left first after
told_front left a script tally first before after so (inl nothing) = (
  lines_told 0 so.all,
  if_some left (λ input. TellsFirst input (lines_told 0 so.all)) (λ input is. inl (so.all, inl (first_of input a script so.all (so.checks input is)), refl)),
  front_all first after (lines_told 0 so.all) (subst (Appends first after) (append-nil (lines_told 0 so.all)) (Appends-trans first before after (lines_told 0 so.all) [] so.writes nothing)),
)
told_front left a script tally first before after so (inr next) =
    let all : List Found = so.all ++ next.0 ∷ [] in
    let line = found_line (one_more tally.replies) next.0 in
    let same : lines_told 0 so.all ++ line ≡ lines_told 0 all = ap (λ (t : Tally). lines_told 0 so.all ++ found_line (one_more t.replies) next.0) so.counts ∙ sym (lines_push so.all next.0) in (
      lines_told 0 all,
      if_some left (λ input. TellsFirst input (lines_told 0 all)) (λ input is. inl (all, next.1 input so.all (so.checks input is), refl)),
      subst (AppendsFront first after) same (front_behind first before after (lines_told 0 so.all) line so.writes next.2),
    )

-- the line of what was found wasn't written to its end
pub line_front : (limit now : ℕ) (a b c : Option (List (List ℕ))) (next : Next) (given : Found) (old new : Option OpenScript) (tally more : Tally) (before after : Option (List ℕ)) → now ≡ limit → IsNextOf limit a next b → next ≢ End → LeadsOn now b next old given c new → StopsOn now b next old given
    → more ≡ counted tally given → AppendsFront before after (found_line more.replies given) → TellsFront a old tally before after
line_front limit now a b c next given old new tally more before after same is some leads stops counts front =
    inr (
      given,
      may_find a c given old new (advances_to limit now a b c next given old new same is some leads stops),
      subst (λ n. AppendsFront before after (found_line n given)) (ap (λ (t : Tally). t.replies) counts ∙ number_counted tally given) front,
    )

-- ---- what a check comes to

by_count : (input : List ℕ) (all : List Found) → FindsRight input all → (none : Bool) → (none ≡ true → count_by is_unchecked all ≡ 0) → (none ≡ false → 0 < count_by is_unchecked all) → FindsAll (if none then outcomes.Right else outcomes.Unchecked) input all
by_count input all finds true none some = (finds, none refl)
by_count input all finds false none some = inl (finds, some refl)

-- where nothing is owed to the last one's line, it is counted
left_counts : (input : List ℕ) (all : List Found) → EndsUnchecked input all → 0 < count_by is_unchecked all
left_counts input all (finds, owes) =
    let whole = ap (count_by is_unchecked) finds.all_is ∙ sum_by_push (λ x. cond (is_unchecked x) 1 0) finds.right (found.Wrong finds.why) ∙ ap (λ (b : Bool). count_by is_unchecked finds.right + cond b 1 0) owes in
    omega (arith, whole)

by_left : (input : List ℕ) (all : List Found) → EndsUnchecked input all → (none : Bool) → (none ≡ true → count_by is_unchecked all ≡ 0) → FindsAll (if none then outcomes.Right else outcomes.Unchecked) input all
by_left input all left true none = absurd (let some = left_counts input all left in let no = none refl in omega (arith, some, no))
by_left input all left false none = inr left

true_not_false : true ≡ false → ⊥
true_not_false is = cc

by_zero : (n : ℕ) → as_counted n ≡ 0 → n ≡ 0
by_zero n is = omega arith

by_more : (n : ℕ) → as_counted n ≢ 0 → 0 < n
by_more zero not = absurd (not refl)
by_more (suc n) not = omega arith

-- as many are counted as aren't checked, up to the greatest number, so none is counted only where there is none
counts_none : (n : ℕ) → (as_counted n == 0) ≡ true → n ≡ 0
counts_none n is = elim (eqb_tells (as_counted n) 0) [ inl both ↦ by_zero n both.1 | inr both ↦ absurd (true_not_false (sym is ∙ both.0)) ]

counts_some : (n : ℕ) → (as_counted n == 0) ≡ false → 0 < n
counts_some n is = elim (eqb_tells (as_counted n) 0) [ inl both ↦ absurd (true_not_false (sym both.0 ∙ is)) | inr both ↦ by_more n both.1 ]

finds_outcome : (none_is_wrong : Bool) (input : List ℕ) (all : List Found) → FindsLines none_is_wrong input all → FindsAll (outcome_of (tally_of all) none_is_wrong) input all
finds_outcome false input all finds = finds
finds_outcome true input all (inl finds) = by_count input all finds (as_counted (count_by is_unchecked all) == 0) (counts_none (count_by is_unchecked all)) (counts_some (count_by is_unchecked all))
finds_outcome true input all (inr left) = by_left input all left (as_counted (count_by is_unchecked all) == 0) (counts_none (count_by is_unchecked all))

some_finds : (none_is_wrong : Bool) (left : Option (List ℕ)) (all : List Found) → IfSome left (λ input. FindsLines none_is_wrong input all) → IfSome left (λ input. FindsAll (outcome_of (tally_of all) none_is_wrong) input all)
some_finds none_is_wrong None all finds = tt
some_finds none_is_wrong (Some input) all finds = finds_outcome none_is_wrong input all finds

-- at the end this was found, by what the check comes to, and counted, and its lines were written
abbrev pub EndsAs : Outcome → Option (List ℕ) → Tally → Option (List ℕ) → Option (List ℕ) → Type 0
EndsAs outcome left tally before after = (all : List Found) × (tally ≡ tally_of all) × IfSome left (λ input. FindsAll outcome input all) × Appends before after (lines_told 0 all)

-- it is so by what was counted
pub ends_as : (none_is_wrong : Bool) (left : Option (List ℕ)) (tally : Tally) (before after : Option (List ℕ)) (outcome : Outcome) → outcome ≡ outcome_of tally none_is_wrong → EndsTold none_is_wrong left tally before after → EndsAs outcome left tally before after
ends_as none_is_wrong left tally before after outcome is ends = (
  ends.0,
  ends.1,
  subst (λ (o : Outcome). IfSome left (λ input. FindsAll o input ends.0)) (sym (is ∙ ap (λ (t : Tally). outcome_of t none_is_wrong) ends.1)) (some_finds none_is_wrong left ends.0 ends.2),
  ends.3,
)

pub all_right : (left : Option (List ℕ)) (tally : Tally) (before after : Option (List ℕ)) (outcome : Outcome) → EndsAs outcome left tally before after → outcome ≡ outcomes.Right → IfSome left IsAllRight
all_right None tally before after outcome ends is = tt
all_right (Some input) tally before after outcome ends is =
    let finds = subst (λ (o : Outcome). FindsAll o input ends.0) is ends.2 in (ends.0, finds.0, finds.1)

so_far : (input : List ℕ) (all : List Found) → FindsAll outcomes.Unchecked input all → IsRightUnlessUnchecked input
so_far input all (inl finds) = inl (all, finds.0, finds.1)
so_far input all (inr left) = inr (all, left)

pub right_so_far : (left : Option (List ℕ)) (tally : Tally) (before after : Option (List ℕ)) (outcome : Outcome) → EndsAs outcome left tally before after → outcome ≡ outcomes.Unchecked → IfSome left IsRightUnlessUnchecked
right_so_far None tally before after outcome ends is = tt
right_so_far (Some input) tally before after outcome ends is = so_far input ends.0 (subst (λ (o : Outcome). FindsAll o input ends.0) is ends.2)

pub stops_wrong : (left : Option (List ℕ)) (tally : Tally) (before after : Option (List ℕ)) (outcome : Outcome) → EndsAs outcome left tally before after → outcome ≡ outcomes.Wrong → IfSome left StopsAtWrong
stops_wrong None tally before after outcome ends is = tt
stops_wrong (Some input) tally before after outcome ends is = (ends.0, subst (λ (o : Outcome). FindsAll o input ends.0) is ends.2)

-- nothing was written yet
pub told_nothing : (left before : Option (List ℕ)) → FailsTold left before before
told_nothing left before = (
  [],
  if_some left (λ input. TellsFirst input []) (λ input is. inl ([], inl (record { front = []; left = lines input; split = refl; state = None; checks = start }), refl)),
  front_all before before [] (Appends-nil before),
)

-- the last line is written behind the others
pub told_whole : (outcome : Outcome) (left : Option (List ℕ)) (tally : Tally) (first before after : Option (List ℕ)) → EndsAs outcome left tally first before → Appends before after (last_line tally outcome)
    → (all : List Found) × IfSome left (λ input. FindsAll outcome input all) × Appends first after (told_of all outcome)
told_whole outcome left tally first before after ends writes = (
  ends.0,
  ends.2,
  Appends-trans first before after (lines_told 0 ends.0) (last_line (tally_of ends.0) outcome) ends.3 (subst (λ (t : Tally). Appends before after (last_line t outcome)) ends.1 writes),
)

last_finds : (outcome : Outcome) (left : Option (List ℕ)) (all : List Found) → IfSome left (λ input. FindsAll outcome input all) → IfSome left (λ input. TellsFirst input (told_of all outcome))
last_finds outcome None all finds = tt
last_finds outcome (Some input) all finds = inr (all, outcome, finds, refl)

-- or a front of it
pub told_last : (outcome : Outcome) (left : Option (List ℕ)) (tally : Tally) (first before after : Option (List ℕ)) → EndsAs outcome left tally first before → AppendsFront before after (last_line tally outcome) → FailsTold left first after
told_last outcome left tally first before after ends front = (
  told_of ends.0 outcome,
  last_finds outcome left ends.0 ends.2,
  front_behind first before after (lines_told 0 ends.0) (last_line (tally_of ends.0) outcome) ends.3 (subst (λ (t : Tally). AppendsFront before after (last_line t outcome)) ends.1 front),
)
