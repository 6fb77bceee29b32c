use Rattle.cobra.proofs.ScriptRounds.{ends_abandoned, ends_finished}
use Rattle.cobra.proofs.rounds.end_round.Goals as goal

pub returns-in-Refused : goal.returns-in-Refused
returns-in-Refused g c =
    ends_abandoned c.args.engine.now c.finish.new.self c.step.new.self c.args.effort.search c.args.effort.budget c.args.effort.depth c.args.effort.workers c.in-Refused.refusal c.step.result c.in-Refused.ensures c.step.ensures

pub returns-in_default : goal.returns-in_default
returns-in_default g c = λ some.
    ends_finished c.args.engine.now c.finish.new.self c.args.effort.search c.args.effort.budget c.args.effort.depth c.args.effort.workers c.finish.result c.finish.ensures c.in_default.not-Refused
