use Rattle.std.proofs.Common.{take}
use Rattle.session_clocks.specs.Removals.{IsUntouched}
use Rattle.clock_tests.proofs.sessions.is_untouched.Given as goal

abbrev pub invariant-loop-arc : goal.invariant-loop-arc
invariant-loop-arc l = IsUntouched (take l.arc-index l.arcs) l.id
