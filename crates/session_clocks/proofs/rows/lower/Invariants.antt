use Rattle.std.proofs.Common.{◌≡◌, ◌⊎◌, ℕ, ◌+◌, ◌<◌, ◌≤◌, get_or}
use Rattle.session_clocks.specs.Rows.{IsLesser}
use Rattle.session_clocks.proofs.rows.lower.Given as goal

abbrev pub invariant-loop-k : goal.invariant-loop-k
invariant-loop-k l = record {
  joined : (j : ℕ) → j < l.k → IsLesser (get_or l.initial.numbers (l.at + j) 0) (get_or l.row j 0) (get_or l.numbers (l.at + j) 0);
  others : (j : ℕ) → (j < l.at) ⊎ (l.at + l.k ≤ j) → get_or l.numbers j 0 ≡ get_or l.initial.numbers j 0;
}
