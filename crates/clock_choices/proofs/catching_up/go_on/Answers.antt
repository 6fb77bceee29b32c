use Rattle.clock_choices.proofs.Catching.{goes_on_marked}
use Rattle.clock_choices.proofs.catching_up.go_on.Goals as goal

pub bring_up_spread-requires-clause-goes_on : goal.bring_up_spread-requires-clause-goes_on
bring_up_spread-requires-clause-goes_on c = goes_on_marked c.args.more.now c.args.graph.now c.mark.new.self c.args.steps.now.items c.args.new.now c.args.first c.in_ok-mark.ensures.ok c.requires.goes_on
