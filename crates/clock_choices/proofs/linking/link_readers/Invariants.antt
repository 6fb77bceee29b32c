use Rattle.std.proofs.Common.{List, All, Contains, take}
use Rattle.order_check.specs.declared.remainder.Parts.{Parts}
use Rattle.order_check.specs.Known.{ReadsBase}
use Rattle.clock_choices.specs.declared.runs.Run.{Run}
use Rattle.clock_choices.specs.Extending.{Extends, reached_in}
use Rattle.clock_choices.specs.Index.{AreRunsOf}
use Rattle.clock_choices.specs.Linking.{Brings, IsBeforeRun}
use Rattle.clock_choices.proofs.linking.link_readers.Given as goal

abbrev pub invariant-loop-reader : goal.invariant-loop-reader
invariant-loop-reader l = record {
  extends : Extends l.initial.graph l.graph;
  brings : (parts : Parts) (runs : List Run) → AreRunsOf parts l.key runs → Contains runs l.run → All (λ reader. ReadsBase parts reader l.key) l.readers
      → Brings parts l.initial.graph l.initial.due l.graph l.due × All (λ reader. IsBeforeRun (reached_in l.graph) reader l.run) (take l.reader-index l.readers);
}
