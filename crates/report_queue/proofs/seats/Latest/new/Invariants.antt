use Rattle.std.specs.Prelude.{◌≡◌, ◌≤◌, [], All, vec_len, vec_capacity}
use Rattle.report_queue.specs.Rule.{publisher}
use Rattle.report_queue.specs.Seats.{IsNewReader}
use Rattle.report_queue.proofs.seats.Latest.new.Given as goal

abbrev pub invariant-loop : goal.invariant-loop
invariant-loop l = record {
  table : l.place.table_id ≡ l.table.shared.table_id;
  holds_none : l.place.me.1 ≡ [];
  view : l.place.me.0 ≡ publisher;
  count : vec_len l.seats ≡ l.counter;
  room : l.readers ≤ vec_capacity l.seats;
  new_all : All (IsNewReader l.table.shared.table_id) l.seats.items;
}
