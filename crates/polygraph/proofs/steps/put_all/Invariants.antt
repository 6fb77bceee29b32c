use Rattle.std.proofs.Common.{◌≡◌, ◌++◌, length}
use Rattle.refutation.specs.Above.{StandsBelow}
use Rattle.refutation.specs.Pruned.{AreAmong}
use Rattle.clock_choices.specs.BranchState.{assumed, taken_before}
use Rattle.polygraph.proofs.steps.put_all.Given as goal

-- beside the sides taken before the last level's steps all that were assumed at the start are
abbrev pub invariant-loop-alloc : goal.invariant-loop-alloc
invariant-loop-alloc l = record {
  parts : l.branch.parts ≡ l.initial.branch.parts;
  among : AreAmong (assumed l.branch.levels) (assumed l.initial.branch.levels);
  stands : StandsBelow l.initial.branch.parts (assumed l.initial.branch.levels ++ taken_before l.initial.branch.log l.initial.branch.levels) l.initial.above
      → StandsBelow l.initial.branch.parts (assumed l.initial.branch.levels ++ taken_before l.branch.log l.branch.levels) l.above;
  tree : l.above.tree ≡ l.initial.above.tree;
}

abbrev pub decreases-loop-alloc : goal.decreases-loop-alloc
decreases-loop-alloc l = length l.branch.levels
