use Rattle.std.proofs.Common.{All, take}
use Rattle.order_check.specs.declared.remainder.Parts.{Parts}
use Rattle.order_check.specs.Known.{ReadsBase}
use Rattle.clock_choices.specs.Extending.{Extends, reached_in}
use Rattle.clock_choices.specs.Index.{AreRunsOf}
use Rattle.clock_choices.specs.Linking.{Brings, IsBeforeRun}
use Rattle.clock_choices.proofs.linking.link_runs.Given as goal

abbrev pub invariant-loop-run : goal.invariant-loop-run
invariant-loop-run l = record {
  extends : Extends l.initial.graph l.graph;
  brings : (parts : Parts) → AreRunsOf parts l.key l.runs → ReadsBase parts l.reader l.key
      → Brings parts l.initial.graph l.initial.due l.graph l.due × All (IsBeforeRun (reached_in l.graph) l.reader) (take l.run-index l.runs);
}
