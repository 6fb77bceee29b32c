use Rattle.std.proofs.Common.{ℕ, Contains, take}
use Rattle.txn.specs.declared.transactions.Source.{Source}
use Rattle.clock_choices.specs.Cycling.{Fits}
use Rattle.clock_choices.proofs.cycles.key_of.Given as goal

abbrev pub invariant-loop-key : goal.invariant-loop-key
invariant-loop-key l = (key : ℕ) (source : Source) → Contains (take l.key-index l.list) (key, source) → ¬ Fits l.parts l.other l.base key source
