use Rattle.std.proofs.Common.{ℕ, All, take}
use Rattle.order_check.specs.declared.remainder.Parts.{Parts}
use Rattle.clock_choices.specs.Extending.{Extends, reached_in}
use Rattle.clock_choices.specs.Forcing.{Forces, IsGrowth}
use Rattle.clock_choices.specs.Index.{AreRunsOf, IsRead, runs_of}
use Rattle.clock_choices.specs.Stages.{IsReadSettled}
use Rattle.clock_choices.proofs.saturating.settle_reads.Given as goal

abbrev pub invariant-loop-read : goal.invariant-loop-read
invariant-loop-read l = record {
  extends : Extends l.initial.graph l.graph;
  growth : IsGrowth (reached_in l.initial.graph) l.initial.due (reached_in l.graph) l.due;
  forces : (parts : Parts) → ((key : ℕ) → AreRunsOf parts key (runs_of l.writers key)) → All (IsRead parts) l.reads → Forces parts l.initial.graph l.initial.steps.items l.graph l.steps.items;
  settled : (parts : Parts) → ((key : ℕ) → AreRunsOf parts key (runs_of l.writers key)) → All (IsReadSettled parts (reached_in l.graph) l.due) (take l.read-index l.reads);
}
