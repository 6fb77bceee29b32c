use Rattle.std.proofs.Common.{◌≡◌, ◌⊎◌, ℕ, ◌+◌, ◌<◌, ◌≤◌, get_or}
use Rattle.session_clocks.proofs.rows.copy_row.Given as goal

abbrev pub invariant-loop-k : goal.invariant-loop-k
invariant-loop-k l = record {
  copied : (j : ℕ) → j < l.k → get_or l.numbers (l.to + j) 0 ≡ get_or l.initial.numbers (l.from + j) 0;
  others : (j : ℕ) → (j < l.to) ⊎ (l.to + l.k ≤ j) → get_or l.numbers j 0 ≡ get_or l.initial.numbers j 0;
}
