use Rattle.std.proofs.Common.{ℕ, ◌<◌, ◌≤◌}
use Rattle.session_clocks.specs.SavedNumbers.{IsMoreOf, since, IsRowSaved}
use Rattle.session_clocks.specs.declared.trail.Way.TheVariants.{Lowered}
use Rattle.session_clocks.proofs.trail.save_tail.Given as goal

abbrev pub invariant-loop-i : goal.invariant-loop-i
invariant-loop-i l = record {
  more : IsMoreOf l.lines l.initial.saved.items l.saved.items;
  rows : (at : ℕ) → l.i ≤ at → at < l.top → IsRowSaved Lowered l.lines (since l.initial.saved.items l.saved.items) l.at_line at l.row;
}
