use Rattle.clock_choices.proofs.Numbers.{HaveTwo}
use Rattle.clock_choices.proofs.runs.first_behind.Given as goal

abbrev pub invariant-loop-place : goal.invariant-loop-place
invariant-loop-place l = HaveTwo l.session l.numbers l.reader l.writer l.count l.place
