-- so far each count is one of a front
use Rattle.std.proofs.Common.{ℕ, ◌<◌, ◌≤◌, get_or}
use Rattle.order_check.specs.Based.{mark_of, received_count}
use Rattle.search_tests.proofs.fronts.are_front_counts.Given as goal

abbrev pub invariant-loop-session : goal.invariant-loop-session
invariant-loop-session l = (s : ℕ) → s < l.session → (mark_of l.parts s ≤ get_or l.counts s 0) × (get_or l.counts s 0 ≤ received_count l.parts s)
