use Rattle.std.proofs.Common.{All, take}
use Rattle.clock_choices.specs.Extending.{Extends, reached_in}
use Rattle.clock_choices.specs.Linking.{Brings, IsBaseLinked}
use Rattle.clock_choices.proofs.linking.link_base_reads.Given as goal

abbrev pub invariant-loop-key : goal.invariant-loop-key
invariant-loop-key l = record {
  extends : Extends l.initial.graph l.graph;
  brings : Brings l.parts l.initial.graph l.initial.due l.graph l.due × All (IsBaseLinked l.parts (reached_in l.graph) l.writers l.reader) (take l.key-index l.list);
}
