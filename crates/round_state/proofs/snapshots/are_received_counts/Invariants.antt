-- so many were received of the sessions so far
use Rattle.std.proofs.Common.{◌≡◌, ℕ, ◌<◌, get_or}
use Rattle.order_check.specs.Based.{received_count}
use Rattle.round_state.proofs.snapshots.are_received_counts.Given as goal

abbrev pub invariant-loop-session : goal.invariant-loop-session
invariant-loop-session l = (s : ℕ) → s < l.session → get_or l.counts s 0 ≡ received_count l.parts s
