use Rattle.std.proofs.Common.{arith, subst}
use Rattle.order_check.specs.Good.{IsGood}
use Rattle.round_state.proofs.Behind.{caught_start, closed_start}
use Rattle.round_state.proofs.catching_up.add_all_new.Goals as goal

pub loop-session-init : goal.loop-session-init
loop-session-init c = caught_start c.args.known.now.parts c.args.parts.now (subst IsGood c.parts.ensures.value c.parts.ensures.good) c.requires.good c.requires.behind

pub returns : goal.returns
returns c = closed_start c.loop-session.known.parts c.args.parts.now c.loop-session.session c.requires.good (omega (arith, c.loop-session-test.false, c.sessions-session-end.ensures)) c.loop-session.invariant
