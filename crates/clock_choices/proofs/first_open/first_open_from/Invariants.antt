use Rattle.clock_choices.specs.Extending.{reached_in}
use Rattle.clock_choices.specs.Opens.{ArePassed}
use Rattle.clock_choices.proofs.first_open.first_open_from.Given as goal

abbrev pub invariant-loop-place : goal.invariant-loop-place
invariant-loop-place l = ArePassed l.asked.parts.now (reached_in l.asked.graph.now) l.ids l.place
