use Rattle.session_clocks.specs.Lines.{AreEmptyLines}
use Rattle.session_clocks.proofs.lines.no_lines.Given as goal

abbrev pub invariant-loop : goal.invariant-loop
invariant-loop l = AreEmptyLines l.counter l.lines.items
