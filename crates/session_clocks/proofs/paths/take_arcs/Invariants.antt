use Rattle.std.proofs.Common.{◌≡◌, ◌<◌, ◌≤◌, ℕ, true, false, length, get_or}
use Rattle.txn.specs.declared.choices.Arc.{Arc}
use Rattle.txn.specs.Arcs.{start_of, end_of}
use Rattle.session_clocks.specs.Trees.{IsTreeOf, IsLed, IsLedTo, rooms}
use Rattle.session_clocks.proofs.paths.take_arcs.Given as goal

abbrev pub invariant-loop-place : goal.invariant-loop-place
invariant-loop-place l = record {
  tree : IsTreeOf l.received l.goal l.arcs l.tops l.tree.items;
  less : l.taken ≡ true → rooms l.received l.tops < rooms l.received l.initial.tops;
  same : l.taken ≡ false → l.tops ≡ l.initial.tops;
  looked : l.taken ≡ false → (k : ℕ) (d : Arc) → l.place ≤ k → k < length l.arcs → IsLedTo l.tops l.goal (end_of (get_or l.arcs k d)) → IsLed l.tops (start_of (get_or l.arcs k d));
}
