use Rattle.order_check.specs.Rules.{AreGoodSessions}
use Rattle.order_check.proofs.remainder.Parts.has_good_sessions.Given as goal

abbrev pub invariant-loop-session : goal.invariant-loop-session
invariant-loop-session l = AreGoodSessions l.self l.session
