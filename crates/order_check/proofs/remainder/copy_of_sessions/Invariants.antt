use Rattle.std.proofs.Common.{◌≡◌, take}
use Rattle.order_check.proofs.remainder.copy_of_sessions.Given as goal

abbrev pub invariant-loop-session : goal.invariant-loop-session
invariant-loop-session l = l.copies.items ≡ take l.session-index l.sessions
