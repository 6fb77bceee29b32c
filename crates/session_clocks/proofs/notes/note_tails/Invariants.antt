use Rattle.std.proofs.Common.{◌⊎◌, ℕ, ◌-◌, ◌<◌, Contains, get_or, length}
use Rattle.txn.specs.declared.transactions.TxnId.{TxnId}
use Rattle.session_clocks.specs.Rows.{line_at}
use Rattle.session_clocks.specs.Additions.{IsFrontOf}
use Rattle.session_clocks.specs.Notes.{IsAllOfTail, IsOfTails, first_of}
use Rattle.session_clocks.proofs.notes.note_tails.Given as goal

abbrev pub invariant-loop-at_line : goal.invariant-loop-at_line
invariant-loop-at_line l = record {
  front : IsFrontOf l.initial.noted.items l.noted.items;
  all : (k : ℕ) → k < l.at_line → IsAllOfTail (line_at l.lines k) (length l.gone) (get_or l.tops k 0 - get_or l.gone k 0) (first_of l.gone k) l.end l.noted.items;
  only : (id : TxnId) → Contains l.noted.items id → Contains l.initial.noted.items id ⊎ IsOfTails l.lines (length l.gone) l.gone l.tops l.end id;
}
