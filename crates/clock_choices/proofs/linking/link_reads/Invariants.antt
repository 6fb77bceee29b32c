use Rattle.std.proofs.Common.{ℕ, All, take}
use Rattle.order_check.specs.declared.remainder.Parts.{Parts}
use Rattle.clock_choices.specs.Extending.{Extends, reached_in}
use Rattle.clock_choices.specs.Index.{AreRunsOf, IsRead, runs_of}
use Rattle.clock_choices.specs.Linking.{Brings, IsLinked}
use Rattle.clock_choices.proofs.linking.link_reads.Given as goal

abbrev pub invariant-loop-read : goal.invariant-loop-read
invariant-loop-read l = record {
  extends : Extends l.initial.graph l.graph;
  brings : (parts : Parts) → ((key : ℕ) → AreRunsOf parts key (runs_of l.writers key)) → All (IsRead parts) l.reads
      → Brings parts l.initial.graph l.initial.due l.graph l.due × All (IsLinked parts (reached_in l.graph)) (take l.read-index l.reads);
}
