use Rattle.std.proofs.Common.{ℕ, Contains, take}
use Rattle.clock_choices.specs.Index.{runs_of}
use Rattle.clock_choices.specs.Indexing.{IsIndexWith}
use Rattle.clock_choices.specs.Writers.{AreRuns}
use Rattle.clock_choices.proofs.indexing.add_txns.Given as goal

abbrev pub invariant-loop-id : goal.invariant-loop-id
invariant-loop-id l = record {
  runs : (key : ℕ) → AreRuns (runs_of l.index.writers key);
  adds : IsIndexWith l.parts l.initial.index l.index (Contains (take l.id-index l.ids));
}
