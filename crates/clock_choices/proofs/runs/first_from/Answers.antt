use Rattle.clock_choices.proofs.runs.first_from.Goals as goal

pub returns : goal.returns
returns c = c.first_behind.ensures c.args.bound c.count_below-count.ensures
