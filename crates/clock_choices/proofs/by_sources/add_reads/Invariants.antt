use Rattle.std.proofs.Common.{ℕ, [], All}
use Rattle.order_check.specs.declared.remainder.Parts.{Parts}
use Rattle.order_check.specs.Cycles.{IsArc}
use Rattle.clock_choices.specs.Extending.{Extends}
use Rattle.clock_choices.specs.Index.{AreRunsOf, IsRead, runs_of}
use Rattle.clock_choices.proofs.by_sources.add_reads.Given as goal

abbrev pub invariant-loop-read : goal.invariant-loop-read
invariant-loop-read l = record {
  extends : Extends l.initial.graph l.graph;
  right : (parts : Parts) → ((key : ℕ) → AreRunsOf parts key (runs_of l.writers key)) → All (IsRead parts) l.reads → All (IsArc parts []) l.initial.graph.arcs → All (IsArc parts []) l.graph.arcs;
}
