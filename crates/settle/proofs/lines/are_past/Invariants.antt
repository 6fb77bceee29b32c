use Rattle.std.proofs.Common.{ℕ, ◌<◌}
use Rattle.settle.specs.Lines.{IsClosedOrPast}
use Rattle.settle.proofs.lines.are_past.Given as goal

abbrev pub invariant-loop-session : goal.invariant-loop-session
invariant-loop-session l = (s : ℕ) → s < l.session → IsClosedOrPast l.known.parts l.fence s
