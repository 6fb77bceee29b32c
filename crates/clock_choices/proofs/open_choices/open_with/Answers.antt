use Rattle.order_check.specs.Known.{by_read}
use Rattle.clock_choices.specs.Extending.{reached_in}
use Rattle.clock_choices.proofs.Countings.{choices_of_known}
use Rattle.clock_choices.proofs.open_choices.open_with.Goals as goal

pub count_open-requires-clause-asked : goal.count_open-requires-clause-asked
count_open-requires-clause-asked c = record {
  good = c.requires.good;
  index = c.requires.index;
  nodes = c.requires.nodes;
  reads = λ reader writer key reads written. (c.requires.exact writer reader).1 (by_read key reads written);
}

pub returns : goal.returns
returns c =
    let found = c.in_ok-found.ensures in
    record {
      all = found.0;
      open_choices = choices_of_known c.args.parts.now (reached_in c.args.graph.now) c.requires.exact found.0 found.1;
      first = found.2;
      counted = found.3;
    }
