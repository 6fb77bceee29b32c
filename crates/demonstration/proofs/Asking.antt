-- What an input's first line asks for.
use Rattle.std.proofs.Common.{arith, ◌≡◌, ℕ, ◌≤◌, List, [], ◌∷◌, ◌++◌, length, Option, Some, None, IfSome, sym, ◌∙◌, ap}
use Rattle.std.proofs.lemmas.List.{length-append}
use Rattle.std.proofs.lemmas.Fmt.{length-decimal-le}
use Rattle.std.specs.Fmt.{decimal}
use Rattle.std.specs.Global.{Vec}
use Rattle.byte_lines.specs.declared.lines.Next.TheVariants.{Line, TooLong, End}
use Rattle.byte_lines.specs.LineReaders.{LineState, IsNextOf, lines_ahead}
use Rattle.byte_lines.specs.Lines.{lines}
use Rattle.demo_store.specs.declared.requests.Fault.{Fault}
use Rattle.demo_store.specs.declared.requests.Fault.TheVariants as fault
use Rattle.demonstration.specs.declared.commands.Command.{Command}
use Rattle.demonstration.specs.Names.{fault_name}
use Rattle.demonstration.specs.Commands.{line_of, AsksFor, IsAllowed, IsAsked}

short_name : (fault : Fault) → length (fault_name fault) ≤ 12
short_name fault.None = omega arith
short_name fault.StaleRead = omega arith
short_name fault.LostUpdate = omega arith
short_name fault.SplitRead = omega arith
short_name fault.SessionBack = omega arith
short_name fault.DirtyRead = omega arith

short : (command : Command) → IsAllowed command → length (line_of command) ≤ 17
short command allowed = omega (
  arith,
  length-append (fault_name command.fault) (32 ∷ decimal command.capacity),
  short_name command.fault,
  length-decimal-le 4 command.capacity (omega arith) (omega (arith, allowed.1)) (omega (arith, allowed.1)),
)

abbrev first : List (List ℕ) → List ℕ
first [] = []
first (line ∷ more) = line

pub asks : (reader : LineState) (left : Option (List ℕ)) (limit : ℕ) (line : Vec ℕ) (after : Option (List (List ℕ))) (command : Command) → reader.ahead ≡ [] → IsNextOf limit (lines_ahead reader left) (Line line) after → IsAsked line.items (Some command)
    → IfSome left (λ input. AsksFor input command)
asks reader None limit line after command empty next asked = tt
asks reader (Some input) limit line after command empty next asked = (asked.0, next.0, ap (λ ahead. lines (ahead ++ input)) (sym empty) ∙ next.2 ∙ ap (λ l. l ∷ next.0) asked.1)

pub too_long : (reader : LineState) (left : Option (List ℕ)) (limit : ℕ) (after : Option (List (List ℕ))) → reader.ahead ≡ [] → limit ≡ 17 → IsNextOf limit (lines_ahead reader left) TooLong after → IfSome left (λ input. (command : Command) → ¬ AsksFor input command)
too_long reader None limit after empty most next = tt
too_long reader (Some input) limit after empty most next = λ command asked.
    let same : next.1 ≡ line_of command = ap first (sym next.3 ∙ ap (λ ahead. lines (ahead ++ input)) empty ∙ asked.2) in omega (arith, ap length same, short command asked.0, next.4, most)

pub ended : (reader : LineState) (left : Option (List ℕ)) (limit : ℕ) (after : Option (List (List ℕ))) → reader.ahead ≡ [] → IsNextOf limit (lines_ahead reader left) End after → IfSome left (λ input. (command : Command) → ¬ AsksFor input command)
ended reader None limit after empty next = tt
ended reader (Some input) limit after empty next = λ command asked. omega (arith, ap length (sym next.1 ∙ ap (λ ahead. lines (ahead ++ input)) empty ∙ asked.2))
