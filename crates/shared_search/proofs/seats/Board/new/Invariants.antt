use Rattle.std.specs.Prelude.{◌≡◌, ◌+◌, ◌-◌, ◌≤◌, [], All, vec_len, vec_capacity}
use Rattle.shared_search.specs.Rule.{fresh}
use Rattle.shared_search.specs.Boards.{IsFresh}
use Rattle.shared_search.proofs.seats.Board.new.Given as goal

abbrev pub invariant-loop : goal.invariant-loop
invariant-loop l = record {
  table : l.place.table_id ≡ l.table.shared.table_id;
  holds_none : l.place.me.1 ≡ [];
  view : l.place.me.0 ≡ fresh l.cubes (l.seats + 1 - l.counter);
  count : vec_len l.all + 1 ≡ l.counter;
  room : l.seats ≤ vec_capacity l.all;
  fresh_all : All (IsFresh (l.table.shared.table_id, l.cubes, l.seats)) l.all.items;
}
