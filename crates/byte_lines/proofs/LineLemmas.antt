-- Lines of bytes.
use Rattle.std.proofs.Common.{◌≡◌, ◌≢◌, ℕ, List, [], ◌∷◌, ◌++◌, refl, ap}
use Rattle.std.proofs.lemmas.List.Elements.{All-head, All-tail}
use Rattle.std.proofs.lemmas.Bool.{ne_eqb}
use Rattle.byte_lines.specs.Lines.{lines, onto_first, HasNoLf}

-- a line that an LF ends, and the lines after it
pub lines-lf : (line rest : List ℕ) → HasNoLf line → lines (line ++ 10 ∷ rest) ≡ line ∷ lines rest
lines-lf [] rest h = refl
lines-lf (byte ∷ line) rest h =
    rw (ne_eqb byte 10 (All-head (λ b. b ≢ 10) byte line h)) (ap (onto_first byte) (lines-lf line rest (All-tail (λ b. b ≢ 10) byte line h)))

-- a last line, which no LF ends
pub lines-last : (byte : ℕ) (line : List ℕ) → HasNoLf (byte ∷ line) → lines (byte ∷ line) ≡ (byte ∷ line) ∷ []
lines-last byte [] h = rw (ne_eqb byte 10 (All-head (λ b. b ≢ 10) byte [] h)) refl
lines-last byte (next ∷ line) h =
    rw (ne_eqb byte 10 (All-head (λ b. b ≢ 10) byte (next ∷ line) h)) (ap (onto_first byte) (lines-last next line (All-tail (λ b. b ≢ 10) byte (next ∷ line) h)))
