use Rattle.std.proofs.Common.{ℕ, ◌<◌, ◌-◌, get_or}
use Rattle.session_clocks.specs.SavedNumbers.{IsMoreOf, since, IsTailSaved}
use Rattle.session_clocks.proofs.trail.save_tails.Given as goal

abbrev pub invariant-loop-at_line : goal.invariant-loop-at_line
invariant-loop-at_line l = record {
  more : IsMoreOf l.lines l.initial.saved.items l.saved.items;
  done : (k : ℕ) → k < l.at_line → IsTailSaved l.lines (since l.initial.saved.items l.saved.items) k l.end.session l.end.number l.row (get_or l.tops k 0 - get_or l.gone k 0);
}
