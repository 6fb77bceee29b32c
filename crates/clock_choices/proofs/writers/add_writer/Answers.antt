use Rattle.clock_choices.proofs.Growths.{on_ok_two}
use Rattle.clock_choices.proofs.WriterLists.{runs_put, writer_put}
use Rattle.clock_choices.proofs.writers.add_writer.Goals as goal

pub add_to_runs-requires : goal.add_to_runs-requires
add_to_runs-requires c = rw c.take_list-runs.ensures.taken (c.requires c.args.key)

pub returns-clause-runs : goal.returns-clause-runs
returns-clause-runs c = on_ok_two c.put_list.result (λ put others. runs_put c.args.writers.now c.take_list-runs.new.lists c.put_list.new.lists c.args.key c.args.id c.take_list-runs.result.items c.add_to_runs.new.runs.items c.take_list-runs.ensures.taken c.take_list-runs.ensures.others put others c.requires c.in_ok-add_to_runs.ensures.runs) c.put_list.ensures.put c.put_list.ensures.others

pub returns-clause-adds : goal.returns-clause-adds
returns-clause-adds c = on_ok_two c.put_list.result (λ put others. writer_put c.args.writers.now c.take_list-runs.new.lists c.put_list.new.lists c.args.key c.args.id c.take_list-runs.result.items c.add_to_runs.new.runs.items c.take_list-runs.ensures.taken c.take_list-runs.ensures.others put others c.in_ok-add_to_runs.ensures.adds) c.put_list.ensures.put c.put_list.ensures.others
