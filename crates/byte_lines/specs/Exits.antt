-- How a program ends.
use Rattle.std.specs.Prelude.{ℕ, List, Option}
use Rattle.std.specs.Option.{option_map}
use Rattle.byte_lines.specs.declared.exits.Exit.{Exit}

-- what it says on standard error, if anything
abbrev pub exit_words : Exit → Option (List ℕ)
exit_words exit = option_map (λ words. words.now) exit.words
