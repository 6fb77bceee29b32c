use Rattle.std.proofs.Common.{ℕ, ◌<◌, sym, subst, vec_len}
use Rattle.atomic_table.specs.Seated.{TableId}
use Rattle.shared_search.specs.declared.words.View.{View}
use Rattle.shared_search.specs.Rule.{Whole}
use Rattle.shared_search.specs.Worked.{Worked}
use Rattle.shared_search.proofs.sharing.bring.Goals as goal

pub returns : goal.returns
returns g c =
    let may = g.S.CubeSolver.may c.args.solver.now in
    let all = c.in_ok-all.all in
    let same = sym c.settle.ensures.seat in
    record {
      parts = vec_len c.in_ok-parts.parts;
      worked = subst (λ (s : TableId × View). Worked may c.args.cubes (vec_len c.in_ok-parts.parts) s.1 all.outcomes.items) same (subst (λ (n : ℕ). Worked may n (vec_len c.in_ok-parts.parts) all.seat.1 all.outcomes.items) c.requires.cubes.0 c.in_ok-all.ensures.worked);
      over = subst (λ (s : TableId × View). 0 < s.1.over) same c.in_ok-all.ensures.over;
      whole = subst (λ (s : TableId × View). Whole s.1) same c.settle.ensures.whole;
    }
