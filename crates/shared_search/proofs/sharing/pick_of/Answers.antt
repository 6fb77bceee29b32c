use Rattle.std.proofs.Common.{arith}
use Rattle.shared_search.proofs.Gathering.{all_below, no_gap, gathers}
use Rattle.shared_search.proofs.sharing.pick_of.Goals as goal

pub fill-requires : goal.fill-requires
fill-requires g c = let b = c.requires.brought in all_below (g.S.CubeSolver.may c.args.solver.now) c.args.cubes _ _ _ b.worked b.over b.whole

pub walk-requires : goal.walk-requires
walk-requires g c =
    let b = c.requires.brought in
    let few = c.requires.few in
    no_gap (g.S.CubeSolver.may c.args.solver.now) c.args.cubes _ _ _ b.worked b.over b.whole _ (omega (arith, few)) c.in_ok-table.ensures

pub returns : goal.returns
returns g c =
    let b = c.requires.brought in
    gathers (g.S.CubeSolver.may c.args.solver.now) c.args.cubes _ _ _ b.worked b.over b.whole _ _ c.in_ok-table.ensures c.in_ok-pick.ensures
