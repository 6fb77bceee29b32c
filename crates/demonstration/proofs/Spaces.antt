-- No fault's name has a space, and each command's line is text.
use Rattle.std.proofs.Common.{arith, ℕ, zero, suc, ◌≢◌, ◌<◌, List, [], ◌∷◌, length, get_or, refl}
use Rattle.std.specs.Prelude.{codes}
use Rattle.std.specs.Str.{IsUtf8}
use Rattle.std.proofs.lemmas.Str.{IsUtf8-append, IsUtf8-from_ascii}
use Rattle.std.proofs.lemmas.Fmt.{IsAscii-decimal}
use Rattle.std.specs.Fmt.{decimal}
use Rattle.demo_store.specs.declared.requests.Fault.{Fault}
use Rattle.demo_store.specs.declared.requests.Fault.TheVariants as fault
use Rattle.demonstration.specs.declared.commands.Command.{Command}
use Rattle.demonstration.specs.Names.{fault_name}
use Rattle.demonstration.specs.Commands.{line_of, IsAllowed}

abbrev Spaceless : List ℕ → Type 0
Spaceless [] = Unit {0}
Spaceless (byte ∷ bytes) = (byte ≢ 32) × Spaceless bytes

none_at : (bytes : List ℕ) → Spaceless bytes → (i : ℕ) → i < length bytes → get_or bytes i 0 ≢ 32
none_at [] free i below = absurd (omega arith)
none_at (byte ∷ bytes) free zero below = free.0
none_at (byte ∷ bytes) free (suc i) below = none_at bytes free.1 i (omega arith)

spaceless : (fault : Fault) → Spaceless (fault_name fault)
spaceless fault.None = (omega arith, (omega arith, (omega arith, (omega arith, tt))))
spaceless fault.StaleRead = (omega arith, (omega arith, (omega arith, (omega arith, (omega arith, (omega arith, (omega arith, (omega arith, (omega arith, (omega arith, tt))))))))))
spaceless fault.LostUpdate = (omega arith, (omega arith, (omega arith, (omega arith, (omega arith, (omega arith, (omega arith, (omega arith, (omega arith, (omega arith, (omega arith, tt)))))))))))
spaceless fault.SplitRead = (omega arith, (omega arith, (omega arith, (omega arith, (omega arith, (omega arith, (omega arith, (omega arith, (omega arith, (omega arith, tt))))))))))
spaceless fault.SessionBack = (omega arith, (omega arith, (omega arith, (omega arith, (omega arith, (omega arith, (omega arith, (omega arith, (omega arith, (omega arith, (omega arith, (omega arith, tt))))))))))))
spaceless fault.DirtyRead = (omega arith, (omega arith, (omega arith, (omega arith, (omega arith, (omega arith, (omega arith, (omega arith, (omega arith, (omega arith, tt))))))))))

pub no_space : (fault : Fault) (i : ℕ) → i < length (fault_name fault) → get_or (fault_name fault) i 0 ≢ 32
no_space fault = none_at (fault_name fault) (spaceless fault)

name_is_text : (fault : Fault) → IsUtf8 (fault_name fault)
unfolding lib.Utf8.encode
name_is_text fault.None = (codes "none", (refl, refl))
name_is_text fault.StaleRead = (codes "stale-read", (refl, refl))
name_is_text fault.LostUpdate = (codes "lost-update", (refl, refl))
name_is_text fault.SplitRead = (codes "split-read", (refl, refl))
name_is_text fault.SessionBack = (codes "session-back", (refl, refl))
name_is_text fault.DirtyRead = (codes "dirty-read", (refl, refl))

pub line_is_text : (command : Command) → IsAllowed command → IsUtf8 (line_of command)
unfolding lib.Utf8.encode
line_is_text command allowed =
    let number : IsUtf8 (decimal command.capacity) = IsUtf8-from_ascii (decimal command.capacity) (IsAscii-decimal command.capacity (omega (arith, allowed.1))) in
    IsUtf8-append (fault_name command.fault) (32 ∷ decimal command.capacity) (name_is_text command.fault) (IsUtf8-append (32 ∷ []) (decimal command.capacity) (32 ∷ [], (refl, refl)) number)
