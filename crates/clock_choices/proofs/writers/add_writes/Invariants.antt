use Rattle.std.proofs.Common.{◌≡◌, ℕ, take}
use Rattle.clock_choices.specs.Adds.{Adds, Among}
use Rattle.clock_choices.specs.Index.{IsInRuns, runs_of}
use Rattle.clock_choices.specs.Writers.{AreRuns}
use Rattle.clock_choices.proofs.writers.add_writes.Given as goal

abbrev pub invariant-loop-key : goal.invariant-loop-key
invariant-loop-key l = record {
  runs : (other : ℕ) → AreRuns (runs_of l.writers other);
  adds : (other : ℕ) → Adds (IsInRuns (runs_of l.initial.writers other)) (IsInRuns (runs_of l.writers other)) (Among (λ key one. (key ≡ other) × (one ≡ l.id)) (take l.key-index l.keys));
}
