use Rattle.std.proofs.Common.{arith}
use Rattle.round_state.proofs.Anew.{below_all}
use Rattle.round_state.proofs.tracking.index_of.Goals as goal

pub returns : goal.returns
returns c = below_all c.loop-session.waits c.args.parts.now c.loop-session.session (omega (arith, c.loop-session-test.false, c.sessions-session-end.ensures, c.requires.good.few_sessions)) c.loop-session.invariant
