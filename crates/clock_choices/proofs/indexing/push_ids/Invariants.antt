use Rattle.std.proofs.Common.{◌≡◌, ◌+◌, Contains}
use Rattle.order_check.specs.Based.{mark_of}
use Rattle.clock_choices.specs.Adds.{Adds}
use Rattle.clock_choices.specs.Indexing.{AreBefore, AreInOrder, IsUpTo}
use Rattle.clock_choices.proofs.indexing.push_ids.Given as goal

abbrev pub invariant-loop-txn : goal.invariant-loop-txn
invariant-loop-txn l = record {
  number : l.number ≡ mark_of l.parts l.session + l._txn-index;
  adds : Adds (Contains l.initial.ids.items) (Contains l.ids.items) (IsUpTo l.session (mark_of l.parts l.session) l.number);
  rise : AreBefore l.session l.initial.ids.items → AreInOrder l.initial.ids.items → AreInOrder l.ids.items;
}
