use Rattle.std.proofs.Common.{◌≡◌, length, get_or}
use Rattle.clock_choices.specs.UpTo.{GoesUp}
use Rattle.clock_choices.proofs.by_sources.add_up_to.Given as goal

abbrev pub invariant-loop-missing : goal.invariant-loop-missing
invariant-loop-missing l = record {
  up : GoesUp l.parts l.initial.graph l.graph;
  ready : length l.ready ≡ length l.initial.ready;
  received : get_or l.graph.received l.id.session 0 ≡ l._missing;
}
