-- A script under way: the lines that were answered, and those that are still to come.
use Rattle.std.proofs.Common.{◌≡◌, ◌≢◌, ℕ, zero, suc, ◌+◌, ◌-◌, ◌≤◌, ◌<◌, ◌⊎◌, List, [], ◌∷◌, ◌++◌, length, take, append_assoc, append-nil, length-append, Option, Some, None, IfSome, refl, ap, sym, ◌∙◌, subst, arith, ⊎_elim}
use Rattle.std.specs.Prelude.{slice_get}
use Rattle.std.specs.List.{concat}
use Rattle.std.specs.Io.KnownBytes.{Appends, Consumes}
use Rattle.std.proofs.KnownBytes.{Appends-trans}
use Rattle.std.proofs.lemmas.List.{take_at, length_push}
use Rattle.list_lemmas.proofs.Options.{if_some_from}
use Rattle.byte_lines.specs.declared.lines.TheConstants.{LONGEST_LINE}
use Rattle.byte_lines.specs.declared.failures.Failure.{Failure}
use Rattle.byte_lines.specs.declared.failures.Failure.TheVariants.{Device, NoMemory}
use Rattle.byte_lines.specs.declared.lines.Next.{Next}
use Rattle.byte_lines.specs.declared.lines.Next.TheVariants.{Line, TooLong, End}
use Rattle.byte_lines.specs.LineReaders.{LineState, lines_ahead, IsNextOf, ReadsLine, EndsAtLf, EndsAtEnd, EndsInLast, StopsInLine}
use Rattle.byte_lines.specs.Lines.{lines, lf_count, HasNoLf}
use Rattle.cobra.specs.Outputs.{Replies, RepliesAll, IsOutputOf, IsOutput, lines_read, AnswersFront, StopsForMemory, StopsReading, StopsWriting, IsTold, RepliesTo}
use Rattle.cobra.specs.declared.stages.Stage.{Stage}
use Rattle.cobra.specs.declared.stages.Stage.TheVariants.{Nothing}
use Rattle.cobra.proofs.LineCounts.{lf_count-cons, lf_count-none, lf_count-append, lf_count-le-lines, no_lines, lf_count-line, lf_count-last, lf_count-stopped}

-- what is said of the input where that is told
pub where_told : (Says : List ℕ → Option (List ℕ) → List ℕ → Type 0) (a b old new : Option (List ℕ)) → ((input : List ℕ) → a ≡ Some input → (output : List ℕ) × Says input b output × Appends old new output) → IfSome a (λ input. (output : List ℕ) × Says input b output × Appends old new output)
where_told Says a b old new h = if_some_from a (λ input. (output : List ℕ) × Says input b output × Appends old new output) h

-- a failure that isn't want of memory
pub is_device : (error : Failure) → (error ≡ NoMemory → ⊥) → error ≡ Device
is_device Device not = refl
is_device NoMemory not = absurd (not refl)

-- nor one of a device
pub is_memory : (error : Failure) → (error ≡ Device → ⊥) → error ≡ NoMemory
is_memory Device not = absurd (not refl)
is_memory NoMemory not = refl

-- one more line is answered

answers_more : (old mid new : Stage) (asked texts : List (List ℕ)) (line text : List ℕ) → RepliesAll old asked texts mid → Replies mid line text new → RepliesAll old (asked ++ line ∷ []) (texts ++ text ∷ []) new
answers_more old mid new [] [] line text all one = (new, subst (λ (state : Stage). Replies state line text new) all one, refl)
answers_more old mid new (a ∷ asked) (t ∷ texts) line text all one = (all.0, all.1, answers_more all.0 mid new asked texts line text all.2 one)
answers_more old mid new [] (t ∷ texts) line text all one = absurd all
answers_more old mid new (a ∷ asked) [] line text all one = absurd all

concat-push : (texts : List (List ℕ)) (text : List ℕ) → concat (texts ++ text ∷ []) ≡ concat texts ++ text
concat-push [] text = append-nil text
concat-push (t ∷ texts) text = ap (λ bytes. t ++ bytes) (concat-push texts text) ∙ sym (append_assoc t (concat texts) text)

output_more : (asked : List (List ℕ)) (output line text : List ℕ) (mid new : Stage) → IsOutputOf asked output mid → Replies mid line text new → IsOutputOf (asked ++ line ∷ []) (output ++ text) new
output_more asked output line text mid new before one = (
  before.0 ++ text ∷ [],
  answers_more Nothing mid new asked before.0 line text before.1 one,
  ap (λ bytes. bytes ++ text) before.2 ∙ sym (concat-push before.0 text),
)

-- While the input is served: what is left of it, what was read, the lines that were asked and answered, and those that
-- were taken and aren't answered yet. A line is taken before more is read, so the lines whose end was read are those and
-- the ones that are ahead. What is ahead came from the last read, which gave so many bytes; without them no LF was read but
-- those of lines that are answered.
pub record IsServing (input : List ℕ) (reader : LineState) (left : Option (List ℕ)) (last : ℕ) (output : List ℕ) (stage : Stage) (taken : List (List ℕ)) : Type 0 where
  pub rest : List ℕ
  pub left_is : left ≡ Some rest
  pub read : List ℕ
  pub input_is : input ≡ read ++ rest
  pub asked : List (List ℕ)
  pub split : lines input ≡ asked ++ (taken ++ lines (reader.ahead ++ rest))
  pub no_more : lf_count read ≤ length asked + length taken + lf_count reader.ahead
  pub no_fewer : length asked + length taken + lf_count reader.ahead ≤ lines_read read rest
  pub front : List ℕ
  pub ends : read ≡ front ++ reader.ahead
  pub within : length reader.ahead ≤ last
  pub prompt : lf_count (take (length read - last) read) ≤ length asked
  pub answers : IsOutputOf asked output stage

-- a front has no more LFs
take_few : (n : ℕ) (bytes : List ℕ) → lf_count (take n bytes) ≤ lf_count bytes
take_few zero bytes = omega arith
take_few (suc n) [] = omega arith
take_few (suc n) (byte ∷ bytes) = omega (arith, lf_count-cons byte (take n bytes), lf_count-cons byte bytes, take_few n bytes)

front_few : (n : ℕ) (front rest : List ℕ) → n ≤ length front → lf_count (take n (front ++ rest)) ≤ lf_count front
front_few zero front rest within = omega arith
front_few (suc n) [] rest within = absurd (omega (arith, within))
front_few (suc n) (byte ∷ front) rest within = omega (arith, lf_count-cons byte (take n (front ++ rest)), lf_count-cons byte front, front_few n front rest (omega (arith, within)))

-- without what the last read gave, no LF of the line that this one ends was read
before_last : (front ahead read : List ℕ) (last asked : ℕ) → read ≡ front ++ 10 ∷ ahead → length ahead < last → lf_count read ≤ asked + 1 + lf_count ahead → lf_count (take (length read - last) read) ≤ asked
before_last front ahead read last asked is within few =
    let long : length read ≡ length front + suc (length ahead) = ap (λ (bytes : List ℕ). length bytes) is ∙ length-append front (10 ∷ ahead) in
    let n : length read - last ≤ length front = omega (arith, long, within) in
    let some : lf_count (take (length read - last) read) ≤ lf_count front = subst (λ (bytes : List ℕ). lf_count (take (length read - last) bytes) ≤ lf_count front) (sym is) (front_few (length read - last) front (10 ∷ ahead) n) in
    let all : lf_count read ≡ lf_count front + lf_count (10 ∷ ahead) = ap (λ (bytes : List ℕ). lf_count bytes) is ∙ lf_count-append front (10 ∷ ahead) in
    let one : lf_count (10 ∷ ahead) ≡ 1 + lf_count ahead = lf_count-cons 10 ahead in
    omega (arith, some, all, one, few)

pub serving_first : (input : List ℕ) (reader : LineState) (left : Option (List ℕ)) (last : ℕ) (stage : Stage) → left ≡ Some input → reader.ahead ≡ [] → stage ≡ Nothing → IsServing input reader left last [] stage []
serving_first input reader left last stage told none first = record {
  rest = input;
  left_is = told;
  read = [];
  input_is = refl;
  asked = [];
  split = ap (λ bytes. lines (bytes ++ input)) (sym none);
  no_more = omega arith;
  no_fewer = rw none (omega arith);
  front = [];
  ends = sym none;
  within = omega (arith, ap (λ (bytes : List ℕ). length bytes) none);
  prompt = omega (arith, take_few (0 - last) []);
  answers = ([], first, refl);
}

-- what was read before some bytes that are left was read to the ends of its lines, and no further
lines_read-more : (read more : List ℕ) (byte : ℕ) (rest : List ℕ) → lines_read read (more ++ byte ∷ rest) ≡ lf_count read
lines_read-more read [] byte rest = refl
lines_read-more read (b ∷ more) byte rest = refl

-- where more was read, and so many lines of the input are counted, each was read to its end
count_read : (input read more rest : List ℕ) (before count : ℕ) → input ≡ (read ++ more) ++ rest → before ≤ lines_read read (more ++ rest) → count ≤ length (lines input) → ((0 < length rest) → count ≤ before + lf_count more) → count ≤ lines_read (read ++ more) rest
count_read input read more [] before count all had lt more_of = subst (λ bytes. count ≤ length (lines bytes)) (all ∙ append-nil (read ++ more)) lt
count_read input read more (byte ∷ rest) before count all had lt more_of =
    omega (arith, lf_count-append read more, lines_read-more read more byte rest, had, more_of (omega arith))

-- the next line, where there is one
taken_line : (limit : ℕ) (all after : List (List ℕ)) (next : Next) → limit ≡ LONGEST_LINE → IsNextOf limit (Some all) next (Some after) → next ≢ End → (line : List ℕ) × IsTold line next × (all ≡ line ∷ after)
taken_line limit all after (Line bytes) is h some =
    let same : after ≡ h.0 = cc in
    (bytes.items, (refl, subst (λ n. length bytes.items ≤ n) is h.3), h.2 ∙ ap (λ rest. bytes.items ∷ rest) (sym same))
taken_line limit all after TooLong is h some =
    let same : after ≡ h.0 = cc in
    (h.1, subst (λ n. n < length h.1) is h.4, h.3 ∙ ap (λ rest. h.1 ∷ rest) (sym same))
taken_line limit all after End is h some = absurd (some refl)

-- a line is read
pub serving_read : (input : List ℕ) (old new : LineState) (a b : Option (List ℕ)) (last_old last : ℕ) (output : List ℕ) (stage : Stage) (more : List ℕ) (next : Next) → IsServing input old a last_old output stage [] → Consumes a b more → ReadsLine old new (old.ahead ++ more) b next → EndsInLast old last_old new last (old.ahead ++ more) → old.limit ≡ LONGEST_LINE → IsNextOf old.limit (lines_ahead old a) next (lines_ahead new b) → next ≢ End → (line : List ℕ) × IsTold line next × IsServing input new b last output stage (line ∷ [])
serving_read input old new a None last_old last output stage more next s gone line in_last limit is some = absurd (subst (λ (o : Option (List ℕ)). Consumes o None more) s.left_is gone)
serving_read input old new a (Some rest) last_old last output stage more next s gone line in_last limit is some =
    let left : s.rest ≡ more ++ rest = subst (λ (o : Option (List ℕ)). Consumes o (Some rest) more) s.left_is gone in
    let found = taken_line old.limit (lines (old.ahead ++ s.rest)) (lines (new.ahead ++ rest)) next limit (subst (λ (o : Option (List ℕ)). IsNextOf old.limit (lines_ahead old o) next (Some (lines (new.ahead ++ rest)))) s.left_is is) some in
    let all : input ≡ (s.read ++ more) ++ rest = s.input_is ∙ (ap (λ bytes. s.read ++ bytes) left ∙ sym (append_assoc s.read more rest)) in
    let split : lines input ≡ s.asked ++ (found.0 ∷ lines (new.ahead ++ rest)) = s.split ∙ ap (λ ls. s.asked ++ ls) found.2 in
    let had : length s.asked + lf_count old.ahead ≤ lines_read s.read (more ++ rest) = subst (λ bytes. length s.asked + lf_count old.ahead ≤ lines_read s.read bytes) left (omega (arith, s.no_fewer)) in
    let many : length s.asked + 1 + lf_count new.ahead ≤ length (lines input) = omega (arith, ap (λ (ls : List (List ℕ)). length ls) split, length-append s.asked (found.0 ∷ lines (new.ahead ++ rest)), length-append new.ahead rest, lf_count-append new.ahead rest, lf_count-le-lines (new.ahead ++ rest)) in
    let Counts : Type 0 = (lf_count old.ahead + lf_count more ≤ 1 + lf_count new.ahead) × ((0 < length rest) → 1 + lf_count new.ahead ≤ lf_count old.ahead + lf_count more) in
    let at_lf : EndsAtLf old new (old.ahead ++ more) next → Counts = λ e. let n = lf_count-line old new more next e in (omega (arith, n), λ some_left. omega (arith, n)) in
    let at_end : EndsAtEnd old new (old.ahead ++ more) (Some rest) next → Counts = λ e. let n = lf_count-last old new more (Some rest) next e in (omega (arith, n), λ some_left. absurd (omega (arith, ap (λ (bytes : List ℕ). length bytes) e.at_end))) in
    let counts : Counts = ⊎_elim at_lf at_end line.ends in
    let few : lf_count (s.read ++ more) ≤ length s.asked + 1 + lf_count new.ahead = omega (arith, lf_count-append s.read more, s.no_more, counts.0) in
    let begun : s.read ++ more ≡ s.front ++ (old.ahead ++ more) = ap (λ (bytes : List ℕ). bytes ++ more) s.ends ∙ append_assoc s.front old.ahead more in
    let none_ends : HasNoLf (old.ahead ++ more) → lf_count (take (length (s.read ++ more) - last) (s.read ++ more)) ≤ length s.asked =
    λ no_lf. omega (arith, take_few (length (s.read ++ more) - last) (s.read ++ more), lf_count-append s.read more, s.no_more, lf_count-append old.ahead more, lf_count-none (old.ahead ++ more) no_lf) in
    let lf_ends : length new.ahead < last → (e : EndsAtLf old new (old.ahead ++ more) next) → lf_count (take (length (s.read ++ more) - last) (s.read ++ more)) ≤ length s.asked =
    λ within e. before_last (s.front ++ e.piece) new.ahead (s.read ++ more) last (length s.asked) (begun ∙ ap (λ (bytes : List ℕ). s.front ++ bytes) e.cut ∙ sym (append_assoc s.front e.piece (10 ∷ new.ahead))) within few in
    let Front : Type 0 = (front : List ℕ) × (s.read ++ more ≡ front ++ new.ahead) in
    let lf_front : EndsAtLf old new (old.ahead ++ more) next → Front =
    λ e. ((s.front ++ e.piece) ++ 10 ∷ [], begun ∙ ap (λ (bytes : List ℕ). s.front ++ bytes) e.cut ∙ sym (append_assoc s.front e.piece (10 ∷ new.ahead)) ∙ sym (append_assoc (s.front ++ e.piece) (10 ∷ []) new.ahead)) in
    let end_front : EndsAtEnd old new (old.ahead ++ more) (Some rest) next → Front = λ e. (s.read ++ more, sym (append-nil (s.read ++ more)) ∙ ap (λ (bytes : List ℕ). (s.read ++ more) ++ bytes) (sym e.used_up)) in
    let front : Front = ⊎_elim lf_front end_front line.ends in
    let placed = in_last s.within in (
      found.0,
      found.1,
      record {
        rest = rest;
        left_is = refl;
        read = s.read ++ more;
        input_is = all;
        asked = s.asked;
        split = split;
        no_more = omega (arith, lf_count-append s.read more, s.no_more, counts.0);
        no_fewer = count_read input s.read more rest (length s.asked + lf_count old.ahead) (length s.asked + 1 + lf_count new.ahead) all had many (λ some_left. omega (arith, counts.1 some_left));
        front = front.0;
        ends = front.1;
        within = ⊎_elim (λ within. omega (arith, within)) (λ none. omega (arith, ap (λ (bytes : List ℕ). length bytes) none.1)) placed;
        prompt = ⊎_elim (λ within. ⊎_elim (λ e. lf_ends within e) (λ e. none_ends e.no_lf) line.ends) (λ none. none_ends none.0) placed;
        answers = s.answers;
      },
    )

-- the line is answered
pub serving_answered : (input : List ℕ) (reader : LineState) (left : Option (List ℕ)) (last : ℕ) (output : List ℕ) (stage new : Stage) (line text : List ℕ) (next : Next) → IsServing input reader left last output stage (line ∷ []) → IsTold line next → RepliesTo stage next text new → IsServing input reader left last (output ++ text) new []
serving_answered input reader left last output stage new line text next s told legal =
    let long = length_push s.asked line in
    record {
      rest = s.rest;
      left_is = s.left_is;
      read = s.read;
      input_is = s.input_is;
      asked = s.asked ++ line ∷ [];
      split = s.split ∙ sym (append_assoc s.asked (line ∷ []) (lines (reader.ahead ++ s.rest)));
      no_more = omega (arith, s.no_more, long);
      no_fewer = omega (arith, s.no_fewer, long);
      front = s.front;
      ends = s.ends;
      within = s.within;
      prompt = omega (arith, s.prompt, long);
      answers = output_more s.asked output line text stage new s.answers (legal line told);
    }

-- a line is read and answered
pub serving_on : (input : List ℕ) (old new : LineState) (a b first then_held now : Option (List ℕ)) (last_old last : ℕ) (output : List ℕ) (stage after : Stage) (more : List ℕ) (next : Next) (text : List ℕ) → IsServing input old a last_old output stage [] → Consumes a b more → ReadsLine old new (old.ahead ++ more) b next → EndsInLast old last_old new last (old.ahead ++ more) → old.limit ≡ LONGEST_LINE → IsNextOf old.limit (lines_ahead old a) next (lines_ahead new b) → next ≢ End → RepliesTo stage next text after → Appends first then_held output → Appends then_held now text → (all : List ℕ) × Appends first now all × IsServing input new b last all after []
serving_on input old new a b first then_held now last_old last output stage after more next text s gone line in_last limit is some legal before one =
    let taken = serving_read input old new a b last_old last output stage more next s gone line in_last limit is some in
    (output ++ text, Appends-trans first then_held now output text before one, serving_answered input new b last output stage after taken.0 text next taken.2 taken.1 legal)

-- what was answered so far answers a front of the lines
pub answered_front : (input output : List ℕ) (asked rest : List (List ℕ)) (state : Stage) → lines input ≡ asked ++ rest → IsOutputOf asked output state → IsOutputOf (take (length asked) (lines input)) output state
answered_front input output asked rest state split answers =
    subst (λ ls. IsOutputOf ls output state) (sym (ap (take (length asked)) split ∙ take_at asked rest (length asked) refl)) answers

-- it stops where a line was read
abbrev pub stops_at_line : (input : List ℕ) (reader : LineState) (left : Option (List ℕ)) (last : ℕ) (output : List ℕ) (stage : Stage) (taken : List (List ℕ)) → (s : IsServing input reader left last output stage taken) → AnswersFront input left output (length s.asked) stage
stops_at_line input reader left last output stage taken s = record {
  read = s.read;
  rest = s.rest;
  left_is = s.left_is;
  input_is = s.input_is;
  were_read = omega (arith, s.no_fewer);
  answers = answered_front input output s.asked (taken ++ lines (reader.ahead ++ s.rest)) stage s.split s.answers;
}

pub stops_for_memory_at_line : (input : List ℕ) (reader : LineState) (left : Option (List ℕ)) (last : ℕ) (output : List ℕ) (stage : Stage) (taken : List (List ℕ)) → IsServing input reader left last output stage taken → StopsForMemory input left output
stops_for_memory_at_line input reader left last output stage taken s = (length s.asked, stage, stops_at_line input reader left last output stage taken s)

-- it stops within the next line
stops_within : (input : List ℕ) (reader : LineState) (a b : Option (List ℕ)) (last : ℕ) (output : List ℕ) (stage : Stage) (more : List ℕ) → (s : IsServing input reader a last output stage []) → Consumes a b more → (front : AnswersFront input b output (length s.asked) stage) × (front.read ≡ s.read ++ more)
stops_within input reader a None last output stage more s gone = absurd (subst (λ (o : Option (List ℕ)). Consumes o None more) s.left_is gone)
stops_within input reader a (Some rest) last output stage more s gone =
    let left : s.rest ≡ more ++ rest = subst (λ (o : Option (List ℕ)). Consumes o (Some rest) more) s.left_is gone in
    let all : input ≡ (s.read ++ more) ++ rest = s.input_is ∙ (ap (λ bytes. s.read ++ bytes) left ∙ sym (append_assoc s.read more rest)) in
    let had : length s.asked ≤ lines_read s.read (more ++ rest) = subst (λ bytes. length s.asked ≤ lines_read s.read bytes) left (omega (arith, s.no_fewer)) in
    let many : length s.asked ≤ length (lines input) = omega (arith, ap (λ (ls : List (List ℕ)). length ls) s.split, length-append s.asked (lines (reader.ahead ++ s.rest))) in (
      record {
        read = s.read ++ more;
        rest = rest;
        left_is = refl;
        input_is = all;
        were_read = count_read input s.read more rest (length s.asked) (length s.asked) all had many (λ some_left. omega arith);
        answers = answered_front input output s.asked (lines (reader.ahead ++ s.rest)) stage s.split s.answers;
      },
      refl,
    )

pub stops_for_memory : (input : List ℕ) (reader : LineState) (a b : Option (List ℕ)) (last : ℕ) (output : List ℕ) (stage : Stage) (more : List ℕ) → IsServing input reader a last output stage [] → Consumes a b more → StopsForMemory input b output
stops_for_memory input reader a b last output stage more s gone = (length s.asked, stage, (stops_within input reader a b last output stage more s gone).0)

pub stops_reading : (input : List ℕ) (old new : LineState) (a b : Option (List ℕ)) (last : ℕ) (output : List ℕ) (stage : Stage) (more : List ℕ) → IsServing input old a last output stage [] → Consumes a b more → StopsInLine old new (old.ahead ++ more) → new.ahead ≡ [] → StopsReading input b output
stops_reading input old new a b last output stage more s gone stops none =
    let within = stops_within input old a b last output stage more s gone in
    let none_left = lf_count-stopped old new more stops none in
    (length s.asked, stage, within.0, subst (λ bytes. lf_count bytes ≤ length s.asked) (sym within.1) (omega (arith, lf_count-append s.read more, s.no_more, none_left)))

-- where no line could be asked for yet
pub stops_first : (input : List ℕ) (left : Option (List ℕ)) → left ≡ Some input → StopsForMemory input left []
stops_first input left told = (
  0,
  Nothing,
  record {
    read = [];
    rest = input;
    left_is = told;
    input_is = refl;
    were_read = omega arith;
    answers = ([], refl, refl);
  },
)

slice_get-middle : (xs ys : List (List ℕ)) (y : List ℕ) → slice_get (xs ++ y ∷ ys) (length xs) ≡ Some y
slice_get-middle [] ys y = refl
slice_get-middle (x ∷ xs) ys y = slice_get-middle xs ys y

pub stops_writing : (input : List ℕ) (reader : LineState) (left : Option (List ℕ)) (last : ℕ) (output : List ℕ) (stage new : Stage) (line text : List ℕ) (next : Next) (n : ℕ) → IsServing input reader left last output stage (line ∷ []) → IsTold line next → RepliesTo stage next text new → n < length text → StopsWriting input left last (output ++ take n text)
stops_writing input reader left last output stage new line text next n s told legal short =
    record {
      count = length s.asked;
      state = stage;
      whole = output;
      front = stops_at_line input reader left last output stage (line ∷ []) s;
      line = line;
      line_is = ap (λ (ls : List (List ℕ)). slice_get ls (length s.asked)) s.split ∙ slice_get-middle s.asked (lines (reader.ahead ++ s.rest)) line;
      line_read = omega (arith, s.no_fewer);
      prompt = s.prompt;
      text = text;
      after = new;
      reply = legal line told;
      written = n;
      part = short;
      output_is = refl;
    }

no_end : (xs ys : List ℕ) → xs ++ ys ≡ [] → ys ≡ []
no_end [] ys e = e
no_end (x ∷ xs) ys e = cc

-- all lines are answered
pub ends_whole : (input : List ℕ) (old new : LineState) (a b : Option (List ℕ)) (last : ℕ) (output : List ℕ) (stage : Stage) (more : List ℕ) → IsServing input old a last output stage [] → Consumes a b more → IsNextOf old.limit (lines_ahead old a) End (lines_ahead new b) → (b ≡ Some []) × IsOutput input output
ends_whole input old new a None last output stage more s gone is = absurd (subst (λ (o : Option (List ℕ)). Consumes o None more) s.left_is gone)
ends_whole input old new a (Some rest) last output stage more s gone is =
    let none = subst (λ (o : Option (List ℕ)). IsNextOf old.limit (lines_ahead old o) End (Some (lines (new.ahead ++ rest)))) s.left_is is in
    let used : lines (new.ahead ++ rest) ≡ [] = cc in
    let all : lines input ≡ s.asked = s.split ∙ (ap (λ ls. s.asked ++ ls) none.1 ∙ append-nil s.asked) in (
      ap Some (no_end new.ahead rest (no_lines (new.ahead ++ rest) used)),
      (stage, subst (λ ls. IsOutputOf ls output stage) (sym all) s.answers),
    )
