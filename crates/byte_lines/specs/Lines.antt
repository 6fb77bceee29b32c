-- Lines of bytes.
use Rattle.std.specs.Prelude.{◌≢◌, ℕ, List, [], ◌∷◌, ◌==◌, if◌then◌else◌, All, count_by}

-- a byte before the first of the lines
abbrev pub onto_first : ℕ → List (List ℕ) → List (List ℕ)
onto_first byte [] = (byte ∷ []) ∷ []
onto_first byte (line ∷ lines) = (byte ∷ line) ∷ lines

-- the bytes cut at each LF, 10, which is no part of a line; a last piece without LF is a line where it isn't empty
abbrev pub lines : List ℕ → List (List ℕ)
lines [] = []
lines (byte ∷ bytes) = if byte == 10 then [] ∷ lines bytes else onto_first byte (lines bytes)

-- how many LFs there are
abbrev pub lf_count : List ℕ → ℕ
lf_count bytes = count_by (λ byte. byte == 10) bytes

abbrev pub HasNoLf : List ℕ → Type 0
HasNoLf bytes = All (λ byte. byte ≢ 10) bytes
