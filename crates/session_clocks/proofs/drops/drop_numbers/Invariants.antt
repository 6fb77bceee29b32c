use Rattle.std.proofs.Common.{◌≡◌, ℕ, ◌+◌, ◌<◌, ◌≤◌, length, get_or}
use Rattle.session_clocks.proofs.drops.drop_numbers.Given as goal

abbrev pub invariant-loop-j : goal.invariant-loop-j
invariant-loop-j l = record {
  len : length l.numbers.items ≡ length l.initial.numbers.items;
  moved : (k : ℕ) → k < l.j → get_or l.numbers.items k 0 ≡ get_or l.initial.numbers.items (l.count + k) 0;
  same : (k : ℕ) → l.j ≤ k → get_or l.numbers.items k 0 ≡ get_or l.initial.numbers.items k 0;
}
