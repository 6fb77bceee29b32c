-- What is written of the run that an input asks for, and which device failed.
use Rattle.std.specs.Prelude.{◌≡◌, ℕ, ◌<◌, List, length, take, Option, IfSome}
use Rattle.std.specs.Io.KnownBytes.{Appends}
use Rattle.demonstration.specs.declared.commands.Command.{Command}
use Rattle.demonstration.specs.declared.texts.Shown.{Shown}
use Rattle.demo_store.specs.declared.requests.Fault.{Fault}
use Rattle.demonstration.specs.Commands.{AsksFor}
use Rattle.demonstration.specs.Runs.{IsRun}
use Rattle.demonstration.specs.Texts.{demo_text}

-- the input, where it is known, asks for a run with the fault that is shown
abbrev pub AsksToShow : Option (List ℕ) → Shown → Type 0
AsksToShow input shown = IfSome input (λ text. (command : Command) × AsksFor text command × (shown.fault ≡ command.fault))

-- what a run with this fault has come to is written
abbrev pub WritesRunOf : Fault → Option (List ℕ) → Option (List ℕ) → Type 0
WritesRunOf fault before after = (shown : Shown) × (shown.fault ≡ fault) × IsRun shown × Appends before after (demo_text shown)

-- or a proper front of it is
abbrev pub WritesFrontOf : Fault → Option (List ℕ) → Option (List ℕ) → Type 0
WritesFrontOf fault before after =
    (shown : Shown) × (n : ℕ) × (shown.fault ≡ fault) × IsRun shown × (n < length (demo_text shown)) × Appends before after (take n (demo_text shown))

-- the input asks for a run, and what that has come to is written
abbrev pub WritesRun : Option (List ℕ) → Option (List ℕ) → Option (List ℕ) → Type 0
WritesRun input before after = (shown : Shown) × IsRun shown × AsksToShow input shown × Appends before after (demo_text shown)

-- or a proper front of it is
abbrev pub WritesFront : Option (List ℕ) → Option (List ℕ) → Option (List ℕ) → Type 0
WritesFront input before after =
    (shown : Shown) × (n : ℕ) × IsRun shown × AsksToShow input shown × (n < length (demo_text shown)) × Appends before after (take n (demo_text shown))
