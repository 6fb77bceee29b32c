use Rattle.std.proofs.Common.{◌≡◌, take}
use Rattle.strict_histories.specs.Rewriting.{strict_sessions}
use Rattle.strict_histories.proofs.rewriting.strict_history.Given as goal

abbrev pub invariant-loop-session : goal.invariant-loop-session
invariant-loop-session l = l.all.items ≡ strict_sessions l.timed 0 (take l.session l.timed)
