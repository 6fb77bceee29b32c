use Rattle.std.proofs.Common.{take}
use Rattle.clock_choices.specs.Due.{AreNoted}
use Rattle.clock_choices.proofs.due.Due.note_all.Given as goal

abbrev pub invariant-loop-id : goal.invariant-loop-id
invariant-loop-id l = AreNoted l.initial.self l.self (take l.id-index l.ids)
