-- What the arguments of a program ask for, and what is written of it.
use Rattle.std.specs.Prelude.{ℕ, ◌<◌, List, [], ◌∷◌, length, take, bytes_eq, codes, if◌then◌else◌, Option}
use Rattle.std.specs.Io.KnownBytes.{Appends}
use Rattle.cobra.specs.declared.programs.Asked.{Asked}
use Rattle.cobra.specs.declared.programs.Asked.TheVariants.{Work, Help, Version, Unknown}

abbrev pub asked_by_word : List ℕ → Asked
asked_by_word word = if bytes_eq word (codes "--help") then Help else (if bytes_eq word (codes "--version") then Version else Unknown)

-- The first argument is the program's name. One word more may ask for help or the version, and no other is known.
abbrev pub asked_by : List (List ℕ) → Asked
asked_by [] = Work
asked_by (name ∷ []) = Work
asked_by (name ∷ word ∷ []) = asked_by_word word
asked_by (name ∷ word ∷ other ∷ rest) = Unknown

-- a proper front of a text is written
abbrev pub AppendsPart : Option (List ℕ) → Option (List ℕ) → List ℕ → Type 0
AppendsPart before after text = (n : ℕ) × (n < length text) × Appends before after (take n text)
