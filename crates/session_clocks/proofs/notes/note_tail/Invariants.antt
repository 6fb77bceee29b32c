use Rattle.std.proofs.Common.{◌⊎◌, ℕ, ◌<◌, ◌≤◌, Contains}
use Rattle.txn.specs.declared.transactions.TxnId.{TxnId}
use Rattle.session_clocks.specs.Rows.{number_at}
use Rattle.session_clocks.specs.Additions.{IsFrontOf}
use Rattle.session_clocks.specs.Notes.{IsOfTail, id_at}
use Rattle.session_clocks.proofs.notes.note_tail.Given as goal

abbrev pub invariant-loop-i : goal.invariant-loop-i
invariant-loop-i l = record {
  front : IsFrontOf l.initial.noted.items l.noted.items;
  above : (row : ℕ) → l.i ≤ row → row < l.top → l.end.number < number_at l.width l.numbers row l.end.session;
  all : (row : ℕ) → l.i ≤ row → row < l.top → Contains l.noted.items (id_at l.first row);
  only : (id : TxnId) → Contains l.noted.items id → Contains l.initial.noted.items id ⊎ IsOfTail l.numbers l.width l.top l.first l.end id;
}
