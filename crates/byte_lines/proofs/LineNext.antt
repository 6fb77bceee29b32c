-- What a reader of lines hands out is the next of the lines.
use Rattle.std.proofs.Common.{◌≡◌, ℕ, List, [], ◌∷◌, ◌++◌, length, append_assoc, append-nil, Bool, true, false, cond, nat_le, Option, Some, None, refl, ap, sym, ◌∙◌, subst, arith, ⊎_elim}
use Rattle.std.proofs.lemmas.Bool.Decides.{nat_tests}
use Rattle.std.specs.Io.KnownBytes.{Consumes}
use Rattle.byte_lines.specs.declared.lines.Next.{Next}
use Rattle.byte_lines.specs.declared.lines.Next.TheVariants.{Line, TooLong, End}
use Rattle.byte_lines.specs.Lines.{lines, HasNoLf}
use Rattle.byte_lines.specs.LineReaders.{LineState, grown, lines_ahead, EndsAtLf, EndsAtEnd, ReadsLine, IsHandedOut, IsLast, IsNextOf}
use Rattle.byte_lines.proofs.LineLemmas.{lines-lf, lines-last}

-- a line that is handed out, or told to be too long, by the test of its length
next_by : (limit : ℕ) (line : List ℕ) (rest : List (List ℕ)) (fits : Bool) → nat_le (length line) limit ≡ fits → (next : Next) → IsHandedOut (cond fits (Some line) None) next → IsNextOf limit (Some (line ∷ rest)) next (Some rest)
next_by limit line rest true e (Line bytes) h = (rest, refl, ap (λ l. l ∷ rest) (sym h), rw h (grind (arith, nat_tests)))
next_by limit line rest true e TooLong h = absurd h
next_by limit line rest true e End h = absurd h
next_by limit line rest false e (Line bytes) h = absurd h
next_by limit line rest false e TooLong h = (rest, line, refl, refl, grind (arith, nat_tests))
next_by limit line rest false e End h = absurd h

-- a line that begins with this call
next-handed : (limit : ℕ) (line : List ℕ) (rest : List (List ℕ)) (next : Next) → IsHandedOut (grown limit (Some []) line) next → IsNextOf limit (Some (line ∷ rest)) next (Some rest)
next-handed limit line rest next h = next_by limit line rest (nat_le (length line) limit) refl next h

-- the same of the last line, which may be none
last_by : (limit : ℕ) (bytes : List ℕ) (fits : Bool) → nat_le (length bytes) limit ≡ fits → HasNoLf bytes → (next : Next) → IsLast (cond fits (Some bytes) None) next → IsNextOf limit (Some (lines bytes)) next (Some [])
last_by limit [] true e no_lf (Line bytes) h = absurd h
last_by limit [] true e no_lf TooLong h = absurd h
last_by limit [] true e no_lf End h = (refl, refl)
last_by limit [] false e no_lf next h = absurd (grind (arith, nat_tests))
last_by limit (byte ∷ bytes) true e no_lf next h = subst (λ all. IsNextOf limit (Some all) next (Some [])) (sym (lines-last byte bytes no_lf)) (next_by limit (byte ∷ bytes) [] true e next h)
last_by limit (byte ∷ bytes) false e no_lf next h = subst (λ all. IsNextOf limit (Some all) next (Some [])) (sym (lines-last byte bytes no_lf)) (next_by limit (byte ∷ bytes) [] false e next h)

next-last : (limit : ℕ) (bytes : List ℕ) → HasNoLf bytes → (next : Next) → IsLast (grown limit (Some []) bytes) next → IsNextOf limit (Some (lines bytes)) next (Some [])
next-last limit bytes no_lf next h = last_by limit bytes (nat_le (length bytes) limit) refl no_lf next h

-- a line without LF comes to an end within what is told to be left
next-lf : (old new : LineState) (read xs ys : List ℕ) (next : Next) → xs ≡ read ++ ys → EndsAtLf old new (old.ahead ++ read) next → old.under_way ≡ Some [] → IsNextOf old.limit (lines_ahead old (Some xs)) next (lines_ahead new (Some ys))
next-lf old new read xs ys next all e fresh =
    let cut : old.ahead ++ xs ≡ e.piece ++ 10 ∷ (new.ahead ++ ys) =
    ap (λ bs. old.ahead ++ bs) all ∙ (sym (append_assoc old.ahead read ys) ∙ (ap (λ bs. bs ++ ys) e.cut ∙ append_assoc e.piece (10 ∷ new.ahead) ys)) in
    let told : lines (old.ahead ++ xs) ≡ e.piece ∷ lines (new.ahead ++ ys) = ap lines cut ∙ lines-lf e.piece (new.ahead ++ ys) e.no_lf in
    subst (λ lines_old. IsNextOf old.limit (Some lines_old) next (Some (lines (new.ahead ++ ys)))) (sym told) (next-handed old.limit e.piece (lines (new.ahead ++ ys)) next (subst (λ line. IsHandedOut (grown old.limit line e.piece) next) fresh e.handed))

next-end : (old new : LineState) (read xs ys : List ℕ) (next : Next) → xs ≡ read ++ ys → EndsAtEnd old new (old.ahead ++ read) (Some ys) next → old.under_way ≡ Some [] → IsNextOf old.limit (lines_ahead old (Some xs)) next (lines_ahead new (Some ys))
next-end old new read xs ys next all e fresh =
    let used : old.ahead ++ xs ≡ old.ahead ++ read = ap (λ bs. old.ahead ++ bs) (all ∙ (ap (λ bs. read ++ bs) e.at_end ∙ append-nil read)) in
    let none : new.ahead ++ ys ≡ [] = ap (λ bs. bs ++ ys) e.used_up ∙ e.at_end in
    subst (λ bs. IsNextOf old.limit (Some (lines bs)) next (Some (lines (new.ahead ++ ys)))) (sym used) (subst (λ bs. IsNextOf old.limit (Some (lines (old.ahead ++ read))) next (Some (lines bs))) (sym none) (next-last old.limit (old.ahead ++ read) e.no_lf next (subst (λ line. IsLast (grown old.limit line (old.ahead ++ read)) next) fresh e.handed)))

-- where it is told what is left, a call that begins a line hands out the next one
pub reads-next : (old new : LineState) (a b : Option (List ℕ)) (read : List ℕ) (next : Next) → Consumes a b read → ReadsLine old new (old.ahead ++ read) b next → old.under_way ≡ Some [] → IsNextOf old.limit (lines_ahead old a) next (lines_ahead new b)
reads-next old new None b read next all r fresh = tt
reads-next old new (Some xs) None read next all r fresh = absurd all
reads-next old new (Some xs) (Some ys) read next all r fresh =
    ⊎_elim (λ e. next-lf old new read xs ys next all e fresh) (λ e. next-end old new read xs ys next all e fresh) r.ends
