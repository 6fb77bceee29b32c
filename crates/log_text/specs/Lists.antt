-- The text of what replies are made of.
use Rattle.std.specs.Prelude.{ℕ, List, ◌++◌, codes, decimal, map}
use Rattle.std.specs.List.{join_with_byte}

-- texts in brackets, with a comma (44) between each two
abbrev pub list_text : List (List ℕ) → List ℕ
list_text texts = codes "[" ++ join_with_byte 44 texts ++ codes "]"

-- a word in quotation marks
abbrev pub word_text : List ℕ → List ℕ
word_text word = codes "\"" ++ word ++ codes "\""

-- numbers in decimal: [2,1]
abbrev pub numbers_text : List ℕ → List ℕ
numbers_text numbers = list_text (map decimal numbers)
