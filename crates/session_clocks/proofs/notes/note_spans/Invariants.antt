use Rattle.std.proofs.Common.{◌⊎◌, ℕ, ◌-◌, ◌<◌, Contains, get_or, length}
use Rattle.txn.specs.declared.transactions.TxnId.{TxnId}
use Rattle.session_clocks.specs.Rows.{line_at}
use Rattle.session_clocks.specs.Additions.{IsFrontOf}
use Rattle.session_clocks.specs.Notes.{IsAllOfSpan, IsOfSpans, first_of, span_from}
use Rattle.session_clocks.proofs.notes.note_spans.Given as goal

abbrev pub invariant-loop-at_line : goal.invariant-loop-at_line
invariant-loop-at_line l = record {
  front : IsFrontOf l.initial.noted.items l.noted.items;
  all : (k : ℕ) → k < l.at_line → IsAllOfSpan (line_at l.lines k) (length l.gone) (span_from l.gone l.received l.starts k) (get_or l.received k 0 - get_or l.gone k 0) (first_of l.gone k) l.start l.noted.items;
  only : (id : TxnId) → Contains l.noted.items id → Contains l.initial.noted.items id ⊎ IsOfSpans l.lines (length l.gone) l.gone l.received l.starts l.start id;
}
