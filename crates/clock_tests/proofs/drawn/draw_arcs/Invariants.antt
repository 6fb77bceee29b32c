use Rattle.std.proofs.Common.{◌≡◌}
use Rattle.clock_tests.proofs.drawn.draw_arcs.Given as goal

abbrev pub invariant-loop-turn : goal.invariant-loop-turn
invariant-loop-turn g l = l.graph.marks ≡ l.initial.graph.marks
