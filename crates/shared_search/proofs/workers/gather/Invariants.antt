use Rattle.std.specs.Prelude.{◌-◌, ◌<◌, All, vec_len}
use Rattle.shared_search.specs.Boards.{IsSeatOf}
use Rattle.shared_search.specs.Worked.{Worked}
use Rattle.shared_search.specs.Gathered.{IsPart}
use Rattle.shared_search.proofs.workers.gather.Given as goal

abbrev pub invariant-loop-part : goal.invariant-loop-part
invariant-loop-part g l = record {
  seat : IsSeatOf l.board l.all.seat;
  over : 0 < l.all.seat.1.over;
  worked : Worked (g.S.CubeSolver.may l.solver) l.board.1 (vec_len l.fn.parts - vec_len l.parts) l.all.seat.1 l.all.outcomes.items;
  rest : All (IsPart (g.S.CubeSolver.may l.solver) l.board) l.parts.items;
  fewer : vec_len l.parts < vec_len l.fn.parts;
}

abbrev pub decreases-loop-part : goal.decreases-loop-part
decreases-loop-part g l = vec_len l.parts
