use Rattle.std.proofs.Common.{◌≡◌, length}
use Rattle.clock_choices.specs.UpTo.{GoesUp}
use Rattle.clock_choices.proofs.by_sources.add_round.Given as goal

abbrev pub invariant-loop-session : goal.invariant-loop-session
invariant-loop-session l = record {
  up : GoesUp l.parts l.initial.graph l.graph;
  ready : length l.ready ≡ length l.initial.ready;
}
