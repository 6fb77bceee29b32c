-- The seat is of the same board.
use Rattle.shared_search.specs.Boards.{IsSeatOf}
use Rattle.worker_tests.proofs.boards.claim_all.Given as goal

abbrev pub invariant-loop-turn : goal.invariant-loop-turn
invariant-loop-turn l = IsSeatOf l.board l.seat
