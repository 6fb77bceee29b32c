use Rattle.std.proofs.Common.{All, take}
use Rattle.order_check.specs.declared.remainder.Parts.{Parts}
use Rattle.clock_choices.specs.Extending.{Extends, reached_in}
use Rattle.clock_choices.specs.Forcing.{AreRunChoices, Forces, IsGrowth, IsRunSettled}
use Rattle.clock_choices.proofs.settling.settle_read.Given as goal

abbrev pub invariant-loop-run : goal.invariant-loop-run
invariant-loop-run l = record {
  extends : Extends l.initial.graph l.graph;
  growth : IsGrowth (reached_in l.initial.graph) l.initial.told.items (reached_in l.graph) l.told.items;
  forces : (parts : Parts) → All (AreRunChoices parts l.read) l.runs → Forces parts l.initial.graph l.initial.steps.items l.graph l.steps.items;
  settled : All (IsRunSettled (reached_in l.graph) l.told.items l.read) (take l.run-index l.runs);
}
