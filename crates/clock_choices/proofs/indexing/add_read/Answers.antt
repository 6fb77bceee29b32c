use Rattle.std.proofs.lemmas.Result.{on_ok_weaker}
use Rattle.clock_choices.proofs.Indexed.{read_put_twice}
use Rattle.clock_choices.proofs.indexing.add_read.Goals as goal

pub returns : goal.returns
returns c = on_ok_weaker c.add_read_at-2.result (λ second. read_put_twice c.args.reads.now.items c.add_read_at.new.reads.items c.add_read_at-2.new.reads.items c.args.read c.in_ok-add_read_at.ensures second) c.add_read_at-2.ensures
