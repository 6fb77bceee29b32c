use Rattle.std.proofs.Common.{map, take}
use Rattle.log_text.specs.Saved.{GainsData, number_data}
use Rattle.log_text.proofs.lists.push_each.Given as goal

abbrev pub invariant-loop-number : goal.invariant-loop-number
invariant-loop-number l = GainsData l.initial.items.items l.items.items (map number_data (take l.number-index l.numbers))
