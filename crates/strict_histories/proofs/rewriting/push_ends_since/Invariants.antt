use Rattle.std.proofs.Common.{◌≡◌, ◌++◌, take}
use Rattle.strict_histories.specs.Rewriting.{ends_since}
use Rattle.strict_histories.proofs.rewriting.push_ends_since.Given as goal

abbrev pub invariant-loop-session : goal.invariant-loop-session
invariant-loop-session l = l.reads.items ≡ l.fn.reads.items ++ ends_since l.since l.span 0 (take l.session l.timed)
