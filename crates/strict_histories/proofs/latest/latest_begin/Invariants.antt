use Rattle.std.proofs.Common.{◌≡◌, take}
use Rattle.strict_histories.specs.Rewriting.{latest_begin}
use Rattle.strict_histories.proofs.latest.latest_begin.Given as goal

abbrev pub invariant-loop-session : goal.invariant-loop-session
invariant-loop-session l = l.latest ≡ latest_begin l.span (take l.session l.timed)
