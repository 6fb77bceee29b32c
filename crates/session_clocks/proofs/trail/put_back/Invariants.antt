use Rattle.std.proofs.Common.{ℕ, ◌≡◌, ◌≤◌, drop}
use Rattle.session_clocks.specs.SavedNumbers.{place_in, had}
use Rattle.session_clocks.specs.Sweeps.{AreAsLong}
use Rattle.session_clocks.proofs.trail.put_back.Given as goal

abbrev pub invariant-loop-at : goal.invariant-loop-at
invariant-loop-at l = record {
  long : AreAsLong l.initial.lines l.lines;
  numbers : (line place : ℕ) → place_in l.lines line place ≡ had (drop l.at l.saved.items) (place_in l.initial.lines) line place;
  within : l.len ≤ l.at;
}
