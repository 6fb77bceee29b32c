use Rattle.session_clocks.specs.SavedNumbers.{IsMoreOf, since}
use Rattle.session_clocks.proofs.Trails.{AreSavedBelow}
use Rattle.session_clocks.proofs.trail.save_row.Given as goal

abbrev pub invariant-loop-k : goal.invariant-loop-k
invariant-loop-k l = record {
  more : IsMoreOf l.lines l.initial.saved.items l.saved.items;
  all : AreSavedBelow l.way l.lines (since l.initial.saved.items l.saved.items) l.at_line l.at l.row l.k;
}
