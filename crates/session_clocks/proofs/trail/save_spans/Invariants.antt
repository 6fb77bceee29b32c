use Rattle.std.proofs.Common.{ℕ, ◌<◌, ◌-◌, min, get_or}
use Rattle.session_clocks.specs.SavedNumbers.{IsMoreOf, since, IsSpanSaved}
use Rattle.session_clocks.proofs.trail.save_spans.Given as goal

abbrev pub invariant-loop-at_line : goal.invariant-loop-at_line
invariant-loop-at_line l = record {
  more : IsMoreOf l.lines l.initial.saved.items l.saved.items;
  done : (k : ℕ) → k < l.at_line → IsSpanSaved l.lines (since l.initial.saved.items l.saved.items) k l.start.session l.start.number l.row (min (get_or l.starts k 0 - get_or l.gone k 0) (get_or l.received k 0 - get_or l.gone k 0)) (get_or l.received k 0 - get_or l.gone k 0);
}
