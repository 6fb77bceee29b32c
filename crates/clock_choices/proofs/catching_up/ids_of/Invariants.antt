use Rattle.std.proofs.Common.{◌≡◌, ◌+◌}
use Rattle.clock_choices.specs.Growth.{AreIdsFrom}
use Rattle.clock_choices.proofs.catching_up.ids_of.Given as goal

abbrev pub invariant-loop-txn : goal.invariant-loop-txn
invariant-loop-txn l = record {
  ids : AreIdsFrom l.fragment.session l.fragment.first l._txn-index l.ids.items;
  number : l.number ≡ l.fragment.first + l._txn-index;
}
