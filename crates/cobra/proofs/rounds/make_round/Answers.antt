use Rattle.cobra.proofs.ScriptRounds.{rounds_begun, rounds_refused}
use Rattle.cobra.proofs.rounds.make_round.Goals as goal

pub returns-in-Done : goal.returns-in-Done
returns-in-Done g c =
    rounds_begun c.args.engine.now c.step.new.self c.end_round.new.engine c.args.effort.search c.args.effort.budget c.args.effort.depth c.args.effort.workers c.end_round.result c.in-Done.ensures c.end_round.ensures

pub returns-in_default : goal.returns-in_default
returns-in_default g c =
    rounds_refused c.args.engine.now c.step.new.self c.args.effort.search c.args.effort.budget c.args.effort.depth c.args.effort.workers c.step.result c.step.ensures c.in_default.not-Done
