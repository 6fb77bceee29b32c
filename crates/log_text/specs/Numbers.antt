-- Numbers and words in a line.
use Rattle.std.specs.Prelude.{ℕ, List, Option, Some, None, option_and_then, ◌&&◌, nat_le, if◌then◌else◌}
use Rattle.serde_json.specs.Data.{Data, number, string, unsigned}

-- an unsigned whole number of 64 bits, as `serde_json` reads it: -0, 5.0 and 1e0 are none
abbrev pub whole_number : Data → Option ℕ
whole_number (number (unsigned n)) = Some n
whole_number given = None

-- the number, where it lies within the bounds
abbrev pub if_within : ℕ → ℕ → ℕ → Option ℕ
if_within least most n = if nat_le least n && nat_le n most then Some n else None

-- a whole number within the bounds
abbrev pub number_within : ℕ → ℕ → Data → Option ℕ
number_within least most given = option_and_then (if_within least most) (whole_number given)

-- the lines of a script name sessions up to 255
abbrev pub session_of : Data → Option ℕ
session_of = number_within 0 255

-- a word
abbrev pub word_of : Data → Option (List ℕ)
word_of (string word) = Some word
word_of given = None
