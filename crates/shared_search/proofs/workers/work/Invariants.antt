use Rattle.std.specs.Prelude.{◌-◌}
use Rattle.shared_search.specs.Boards.{IsSeatOf}
use Rattle.shared_search.specs.Worked.{Worked}
use Rattle.shared_search.proofs.workers.work.Given as goal

abbrev pub invariant-loop-cube : goal.invariant-loop-cube
invariant-loop-cube g l = record { seat : IsSeatOf l.board l.seat; worked : Worked (g.S.CubeSolver.may l.solver) l.board.1 1 l.seat.1 l.outcomes.items }

abbrev pub decreases-loop-cube : goal.decreases-loop-cube
decreases-loop-cube g l = l.board.1 - l.seat.1.after
