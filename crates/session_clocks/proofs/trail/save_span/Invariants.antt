use Rattle.std.proofs.Common.{ℕ, ◌<◌, ◌≤◌}
use Rattle.session_clocks.specs.SavedNumbers.{IsMoreOf, since, IsRowSaved}
use Rattle.session_clocks.specs.declared.trail.Way.TheVariants.{Raised}
use Rattle.session_clocks.proofs.trail.save_span.Given as goal

abbrev pub invariant-loop-i : goal.invariant-loop-i
invariant-loop-i l = record {
  more : IsMoreOf l.lines l.initial.saved.items l.saved.items;
  each : (at : ℕ) → l.from ≤ at → at < l.i → IsRowSaved Raised l.lines (since l.initial.saved.items l.saved.items) l.at_line at l.row;
}
