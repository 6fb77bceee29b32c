use Rattle.std.proofs.Common.{◌-◌}
use Rattle.fence_chain.specs.Picked.{IsBetween}
use Rattle.fence_chain.proofs.chaining.place_of.Given as goal

abbrev pub invariant-loop-low : goal.invariant-loop-low
invariant-loop-low l = IsBetween l.known.parts l.fence l.chain l.low l.high

abbrev pub decreases-loop-low : goal.decreases-loop-low
decreases-loop-low l = l.high - l.low
