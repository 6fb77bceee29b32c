use Rattle.std.proofs.Common.{◌≡◌, ℕ, take, nat_eq, if◌then◌else◌, Some}
use Rattle.std.specs.List.{list_any}
use Rattle.std.specs.FinMap as map
use Rattle.order_check.proofs.explaining.note_writes.Given as goal

abbrev pub invariant-loop-key : goal.invariant-loop-key
invariant-loop-key l = (key : ℕ) → map.get l.front key ≡ (if list_any (nat_eq key) (take l.key-index l.key-items) then Some l.id else map.get l.initial.front key)
