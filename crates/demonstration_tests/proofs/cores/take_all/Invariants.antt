-- No round is begun, and the search stays what it was.
use Rattle.std.proofs.Common.{◌≡◌, None}
use Rattle.demonstration_tests.proofs.cores.take_all.Given as goal

abbrev pub invariant-loop-session : goal.invariant-loop-session
invariant-loop-session g l = (l.core.search ≡ l.fn.core.search) × (l.core.engine.asked ≡ None)
