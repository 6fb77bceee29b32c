use Rattle.std.proofs.Common.{take}
use Rattle.order_check.proofs.Sessions.{HaveCome}
use Rattle.order_check.proofs.explaining.keeps_sessions.Given as goal

abbrev pub invariant-loop-id : goal.invariant-loop-id
invariant-loop-id l = HaveCome l.parts (take l.id-index l.order) l.taken.items
