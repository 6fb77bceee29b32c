use Rattle.clock_choices.proofs.LinkedAmong.{runs_of_more}
use Rattle.clock_choices.proofs.among.runs_of_each.Goals as goal

pub loop-id-preserved : goal.loop-id-preserved
loop-id-preserved c = runs_of_more c.args.ids.now c.loop-id.id-index _ c.loop-id.runs.items c.add_to_runs.new.runs.items c.loop-id-test.true c.loop-id.invariant c.in_ok-add_to_runs.ensures.runs c.in_ok-add_to_runs.ensures.adds
