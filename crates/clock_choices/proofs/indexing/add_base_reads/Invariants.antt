use Rattle.std.proofs.Common.{ℕ, Contains, take}
use Rattle.clock_choices.specs.Adds.{Adds, Among}
use Rattle.clock_choices.specs.Indexing.{IsReadOfBase}
use Rattle.clock_choices.specs.Lists.{list_at}
use Rattle.clock_choices.proofs.indexing.add_base_reads.Given as goal

abbrev pub invariant-loop-key : goal.invariant-loop-key
invariant-loop-key l = (other : ℕ) → Adds (Contains (list_at l.initial.base other)) (Contains (list_at l.base other)) (Among (IsReadOfBase l.parts l.reader other) (take l.key-index l.list))
