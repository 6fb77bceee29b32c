use Rattle.std.proofs.Common.{◌≡◌, ◌∙◌, ◌++◌, ◌∷◌, [], ap, Bool}
use Rattle.shared_search.specs.Worked.{told}
use Rattle.shared_search.proofs.Working.{skipped, undone, searched, after_same}
use Rattle.shared_search.proofs.workers.one.Goals as goal

pub returns-then-lower-cube-clause-worked : goal.returns-then-lower-cube-clause-worked
returns-then-lower-cube-clause-worked g c =
    let r = c.requires.worked in
    let l = c.in-Some.ensures.least in
    skipped _ _ c.args.seat.now.1 _ r.0 _ c.args.cube _ r.1 r.2 l.0 l.1 c.if-lower-cube.true

pub tell-requires-clause-claimed : goal.tell-requires-clause-claimed
tell-requires-clause-claimed g c =
    let r = c.requires.worked in
    let l = c.least.ensures.least in
    undone (g.S.CubeSolver.may c.args.solver.now) c.args.board.now.1 c.args.seat.now.1 _ r.0 _ c.args.cube _ r.1 r.2 l.0

pub returns-clause-after : goal.returns-clause-after
returns-clause-after g c =
    let l = c.least.ensures.least in
    after_same c.args.seat.now.1 c.least.new.seat.1 c.tell.new.seat.1 c.args.cube _ _ l.0 c.tell.ensures.told

pub returns-clause-worked : goal.returns-clause-worked
returns-clause-worked g c =
    let r = c.requires.worked in
    let l = c.least.ensures.least in
    let items : c.push_reserved.new.self.items ≡ c.args.outcomes.now.items ++ (c.args.cube, c.in_ok-outcome.outcome) ∷ [] = cc in
    searched (g.S.CubeSolver.may c.args.solver.now) c.args.board.now.1 c.args.seat.now.1 c.least.new.seat.1 c.tell.new.seat.1 r.0 c.args.outcomes.now.items c.push_reserved.new.self.items c.args.cube _ c.in_ok-outcome.outcome
    r.1 r.2 l.0 l.1 c.in_ok-outcome.ensures (c.tell.ensures.told ∙ ap (λ (b : Bool). told c.least.new.seat.1 c.args.cube b) c.is_yes.ensures) items
