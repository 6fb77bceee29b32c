-- the map has the entries from a place on, and none of their keys stands twice
use Rattle.std.proofs.Common.{◌≡◌, ◌≤◌, length, drop}
use Rattle.std.specs.FinMap as map
use Rattle.cobra.specs.HandOver.{KeysDiffer}
use Rattle.cobra.proofs.handing.writers_of.Given as goal

abbrev pub invariant-loop-left : goal.invariant-loop-left
invariant-loop-left l = record {
  within : l.left ≤ length l.entries;
  keys : KeysDiffer (drop l.left l.entries);
  map_is : l.last ≡ map.from_entries (drop l.left l.entries);
}

abbrev pub decreases-loop-left : goal.decreases-loop-left
decreases-loop-left l = l.left
