use Rattle.std.proofs.Common.{All, take}
use Rattle.clock_choices.specs.Extending.{Extends, reached_in}
use Rattle.clock_choices.specs.Linking.{Brings, IsTxnLinked}
use Rattle.clock_choices.proofs.linking.link_txns.Given as goal

abbrev pub invariant-loop-id : goal.invariant-loop-id
invariant-loop-id l = record {
  extends : Extends l.initial.graph l.graph;
  brings : Brings l.parts l.initial.graph l.initial.due l.graph l.due × All (IsTxnLinked l.parts (reached_in l.graph) l.first) (take l.id-index l.ids);
}
