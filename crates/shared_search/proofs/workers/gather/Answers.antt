use Rattle.std.proofs.Common.{◌≡◌, ℕ, ◌-◌, ◌+◌, ◌<◌, List, Some, sym, subst, vec_len, arith}
use Rattle.std.proofs.lemmas.List.Elements.{All-pop}
use Rattle.polygraph.specs.declared.solving.Cube.{Cube}
use Rattle.shared_search.specs.declared.words.View.{View}
use Rattle.shared_search.specs.Gathered.{IsPart}
use Rattle.shared_search.specs.Worked.{Worked}
use Rattle.shared_search.proofs.Working.{merges}
use Rattle.shared_search.proofs.workers.gather.Goals as goal

pub loop-part-init : goal.loop-part-init
loop-part-init g c =
    let b = c.args.board.now in
    let may = g.S.CubeSolver.may c.args.solver.now in
    let part = c.last_part-all.result in
    let e = c.last_part-all.ensures in
    let popped = All-pop (IsPart may b) _ _ (Some part) e.items c.requires.parts in
    let its = popped.1.1 c.if-all.false in
    let n : ℕ = vec_len c.args.parts in
    let p : ℕ = vec_len c.last_part-all.new.parts in
    let long : n ≡ p + 1 = e.len in
    let one : n - p ≡ 1 = omega (arith, long) in
    record {
      seat = popped.1.0;
      over = its.0;
      worked = subst (λ (k : ℕ). Worked may b.1 k part.seat.1 part.outcomes.items) (sym one) its.1;
      rest = popped.0;
      fewer = omega (arith, long);
    }

pub loop-part-preserved : goal.loop-part-preserved
loop-part-preserved g c =
    let e = c.in-Some.ensures in
    let i = c.loop-part.invariant in
    let b = c.args.board.now in
    let may = g.S.CubeSolver.may c.args.solver.now in
    let popped = All-pop (IsPart may b) _ _ (Some c.in-Some.part) e.items i.rest in
    let its = popped.1.1 c.if-part.false in
    let n : ℕ = vec_len c.args.parts in
    let p : ℕ = vec_len c.loop-part.parts in
    let q : ℕ = vec_len c.pop.new.self in
    let sum : n - q ≡ (n - p) + 1 = let f = i.fewer in let l = e.len in omega arith in
    record {
      seat = c.absorb.ensures.seat;
      over = subst (λ (v : View). 0 < v.over) (sym c.absorb.ensures.both) (let o = i.over in omega arith);
      worked = subst (λ (x : View × List (ℕ × Cube)). Worked may b.1 (n - q) x.0 x.1) (λ k. (sym c.absorb.ensures.both k, sym c.in_ok-append.ensures.items k))
          (merges may b.1 (n - p) 1 (n - q) c.loop-part.all.seat.1 c.in-Some.part.seat.1 c.loop-part.all.outcomes.items c.in-Some.part.outcomes.items i.worked its.1 sum);
      rest = popped.0;
      fewer = let f = i.fewer in let l = e.len in omega arith;
    }
