use Rattle.std.proofs.Common.{◌≡◌, ℕ, ◌<◌, length, slice_index}
use Rattle.txn.specs.History.{session_of}
use Rattle.order_check.proofs.explaining.are_all_taken.Given as goal

abbrev pub invariant-loop-session : goal.invariant-loop-session
invariant-loop-session l = (s : ℕ) → s < l.session → slice_index l.taken s ≡ length (session_of l.parts.remain s)
