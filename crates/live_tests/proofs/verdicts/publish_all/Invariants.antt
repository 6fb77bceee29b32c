-- All that is published is of an earlier round.
use Rattle.std.proofs.Common.{◌≡◌, All}
use Rattle.report_queue.specs.Reports.{IsBefore}
use Rattle.live_tests.proofs.verdicts.publish_all.Given as goal

abbrev pub invariant-loop-round : goal.invariant-loop-round
invariant-loop-round l = (l.publisher.word ≡ l.latest) × (l.latest ≡ l.fn.latest) × All (IsBefore l.round) l.publisher.published
