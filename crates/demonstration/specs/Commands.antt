-- Lines that ask for a run.
use Rattle.std.specs.Prelude.{◌≡◌, ◌≢◌, ℕ, ◌≤◌, List, ◌∷◌, ◌++◌, Option, Some, None}
use Rattle.std.specs.Fmt.{decimal}
use Rattle.byte_lines.specs.Lines.{lines}
use Rattle.demonstration.specs.declared.commands.Command.{Command}
use Rattle.demonstration.specs.Names.{fault_name}

-- a command's line: the fault's name, a space, and the desk's capacity in decimal
abbrev pub line_of : Command → List ℕ
line_of command = fault_name command.fault ++ 32 ∷ decimal command.capacity

-- a desk has 1 to 1,024 places
abbrev pub IsAllowed : Command → Type 0
IsAllowed command = (1 ≤ command.capacity) × (command.capacity ≤ 1024)

-- a line asks for the allowed command whose line it is, and for none where there is no such command
abbrev pub IsAsked : List ℕ → Option Command → Type 0
IsAsked line (Some command) = IsAllowed command × (line ≡ line_of command)
IsAsked line None = (command : Command) → IsAllowed command → line ≢ line_of command

-- the first line of an input asks for an allowed command
abbrev pub AsksFor : List ℕ → Command → Type 0
AsksFor input command = IsAllowed command × (rest : List (List ℕ)) × (lines input ≡ line_of command ∷ rest)
