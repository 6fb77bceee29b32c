use Rattle.session_clocks.specs.Widths.{IsWidened}
use Rattle.session_clocks.proofs.widths.widened.Given as goal

abbrev pub invariant-loop-row : goal.invariant-loop-row
invariant-loop-row l = IsWidened l.numbers l.wide.items l.row l.width l.number
