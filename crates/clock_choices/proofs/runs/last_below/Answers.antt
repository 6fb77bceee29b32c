use Rattle.clock_choices.proofs.runs.last_below.Goals as goal

pub returns : goal.returns
returns c = c.last_in.ensures c.args.bound c.count_below-count.ensures
