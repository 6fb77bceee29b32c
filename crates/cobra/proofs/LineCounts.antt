-- How many LFs and how many lines bytes have.
use Rattle.std.proofs.Common.{◌≡◌, ◌≢◌, ℕ, ◌+◌, ◌≤◌, List, [], ◌∷◌, ◌++◌, length, Bool, true, false, cond, nat_eq, Option, refl, ap, sym, ◌∙◌, arith}
use Rattle.std.proofs.lemmas.List.Elements.{All-head, All-tail}
use Rattle.std.proofs.lemmas.List.Sums.{sum_by-append}
use Rattle.std.proofs.lemmas.Bool.{ne_eqb}
use Rattle.byte_lines.specs.declared.lines.Next.{Next}
use Rattle.byte_lines.specs.LineReaders.{LineState, EndsAtLf, EndsAtEnd, StopsInLine}
use Rattle.byte_lines.specs.Lines.{lines, onto_first, lf_count, HasNoLf}

pub lf_count-append : (xs ys : List ℕ) → lf_count (xs ++ ys) ≡ lf_count xs + lf_count ys
lf_count-append xs ys = sum_by-append (λ byte. cond (nat_eq byte 10) 1 0) xs ys

pub lf_count-cons : (byte : ℕ) (bytes : List ℕ) → lf_count (byte ∷ bytes) ≡ cond (nat_eq byte 10) 1 0 + lf_count bytes
lf_count-cons byte bytes =
    let one : lf_count (byte ∷ []) ≡ cond (nat_eq byte 10) 1 0 = omega arith in
    omega (arith, lf_count-append (byte ∷ []) bytes, one)

pub lf_count-none : (bytes : List ℕ) → HasNoLf bytes → lf_count bytes ≡ 0
lf_count-none [] h = refl
lf_count-none (byte ∷ bytes) h =
    let head : nat_eq byte 10 ≡ false = ne_eqb byte 10 (All-head (λ b. b ≢ 10) byte bytes h) in
    let rest = lf_count-none bytes (All-tail (λ b. b ≢ 10) byte bytes h) in
    omega (arith, lf_count-cons byte bytes, ap {B = ℕ} (λ b. cond b 1 0) head, rest)

pub lf_count-cut : (piece rest : List ℕ) → HasNoLf piece → lf_count (piece ++ 10 ∷ rest) ≡ 1 + lf_count rest
lf_count-cut piece rest h = omega (arith, lf_count-append piece (10 ∷ rest), lf_count-none piece h, lf_count-cons 10 rest)

length-onto_first : (byte : ℕ) (all : List (List ℕ)) → length all ≤ length (onto_first byte all)
length-onto_first byte [] = omega arith
length-onto_first byte (line ∷ all) = omega arith

-- each LF ends a line
one_more : (byte : ℕ) (bytes : List ℕ) (is : Bool) → nat_eq byte 10 ≡ is → lf_count bytes ≤ length (lines bytes) → cond is 1 0 + lf_count bytes ≤ length (cond is ([] ∷ lines bytes) (onto_first byte (lines bytes)))
one_more byte bytes true e h = omega arith
one_more byte bytes false e h = omega (arith, length-onto_first byte (lines bytes), h)

pub lf_count-le-lines : (bytes : List ℕ) → lf_count bytes ≤ length (lines bytes)
lf_count-le-lines [] = omega arith
lf_count-le-lines (byte ∷ bytes) =
    let more : cond (nat_eq byte 10) 1 0 + lf_count bytes ≤ length (lines (byte ∷ bytes)) = one_more byte bytes (nat_eq byte 10) refl (lf_count-le-lines bytes) in
    omega (arith, lf_count-cons byte bytes, more)

some_onto_first : (byte : ℕ) (all : List (List ℕ)) → onto_first byte all ≡ [] → ⊥
some_onto_first byte [] e = cc
some_onto_first byte (line ∷ all) e = cc

some_lines : (byte : ℕ) (bytes : List ℕ) (is : Bool) → cond is ([] ∷ lines bytes) (onto_first byte (lines bytes)) ≡ [] → ⊥
some_lines byte bytes true e = cc
some_lines byte bytes false e = some_onto_first byte (lines bytes) e

-- only no bytes have no line
pub no_lines : (bytes : List ℕ) → lines bytes ≡ [] → bytes ≡ []
no_lines [] e = refl
no_lines (byte ∷ bytes) e = absurd (some_lines byte bytes (nat_eq byte 10) e)

-- of what was ahead and what was read, an LF ended the line, and the rest is ahead now
pub lf_count-line : (old new : LineState) (read : List ℕ) (next : Next) → EndsAtLf old new (old.ahead ++ read) next → lf_count old.ahead + lf_count read ≡ 1 + lf_count new.ahead
lf_count-line old new read next e =
    sym (lf_count-append old.ahead read) ∙ (ap lf_count e.cut ∙ lf_count-cut e.piece new.ahead e.no_lf)

-- there was none
pub lf_count-last : (old new : LineState) (read : List ℕ) (left : Option (List ℕ)) (next : Next) → EndsAtEnd old new (old.ahead ++ read) left next → lf_count old.ahead + lf_count read ≡ 0
lf_count-last old new read left next e = sym (lf_count-append old.ahead read) ∙ lf_count-none (old.ahead ++ read) e.no_lf

pub lf_count-stopped : (old new : LineState) (read : List ℕ) → StopsInLine old new (old.ahead ++ read) → new.ahead ≡ [] → lf_count old.ahead + lf_count read ≡ 0
lf_count-stopped old new read stops none =
    sym (lf_count-append old.ahead read)
    ∙ (ap lf_count stops.cut ∙ (lf_count-append stops.piece new.ahead ∙ ap (λ n. n + lf_count new.ahead) (lf_count-none stops.piece stops.no_lf) ∙ (ap (λ bytes. 0 + lf_count bytes) none)))
