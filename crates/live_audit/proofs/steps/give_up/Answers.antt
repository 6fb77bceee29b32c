use Rattle.live_audit.proofs.Stepping.{given_up}
use Rattle.live_audit.proofs.steps.give_up.Goals as goal

pub returns-clause-legal : goal.returns-clause-legal
returns-clause-legal c = given_up c.args.engine.now c.abandon.new.self c.abandon.result c.right_is_legal.ensures c.requires c.abandon.ensures.ok c.abandon.ensures.err
