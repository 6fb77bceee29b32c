use Rattle.std.proofs.Common.{◌⊎◌, Contains, take}
use Rattle.clock_choices.specs.declared.reads.Read.{Read}
use Rattle.clock_choices.specs.Stages.{IsLeftTo}
use Rattle.clock_choices.proofs.saturating.reads_in_turn.Given as goal

abbrev pub invariant-loop-read : goal.invariant-loop-read
invariant-loop-read l = record {
  each : (read : Read) → Contains l.turn.items read → Contains l.reads read;
  all : (read : Read) → Contains (take l.read-index l.reads) read → Contains l.turn.items read ⊎ IsLeftTo l.batch l.id read;
}
