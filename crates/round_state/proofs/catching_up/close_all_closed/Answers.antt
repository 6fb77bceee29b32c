use Rattle.std.proofs.Common.{arith}
use Rattle.round_state.proofs.Behind.{closed_all}
use Rattle.round_state.proofs.catching_up.close_all_closed.Goals as goal

pub returns : goal.returns
returns c = closed_all c.loop-session.known.parts c.args.parts.now c.loop-session.session c.requires.good (omega (arith, c.loop-session-test.false, c.sessions-session-end.ensures)) c.loop-session.invariant
