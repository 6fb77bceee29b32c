use Rattle.std.proofs.Common.{◌^◌}
use Rattle.clock_choices.specs.Runs.{IsBetween}
use Rattle.clock_choices.proofs.runs.count_below.Given as goal

abbrev pub invariant-loop-power : goal.invariant-loop-power
invariant-loop-power l = IsBetween l.numbers l.bound l.low (2 ^ l.power)
