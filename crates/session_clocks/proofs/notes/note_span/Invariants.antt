use Rattle.std.proofs.Common.{◌⊎◌, ℕ, ◌<◌, ◌≤◌, Contains}
use Rattle.txn.specs.declared.transactions.TxnId.{TxnId}
use Rattle.session_clocks.specs.Additions.{IsFrontOf}
use Rattle.session_clocks.specs.Notes.{IsOfSpan, id_at}
use Rattle.session_clocks.proofs.notes.note_span.Given as goal

abbrev pub invariant-loop-i : goal.invariant-loop-i
invariant-loop-i l = record {
  front : IsFrontOf l.initial.noted.items l.noted.items;
  all : (row : ℕ) → l.from ≤ row → row < l.i → Contains l.noted.items (id_at l.first row);
  only : (id : TxnId) → Contains l.noted.items id → Contains l.initial.noted.items id ⊎ IsOfSpan l.numbers l.width l.from l.rows l.first l.start id;
}
