use Rattle.isolation_histories.specs.Offered.{AreOfferedBelow}
use Rattle.isolation_histories.proofs.offered.check_offered.Given as goal

abbrev pub invariant-loop-place : goal.invariant-loop-place
invariant-loop-place l = AreOfferedBelow l.sessions l.fragment l.place
