use Rattle.std.proofs.Common.{◌^◌, ◌∙◌, List, length, ap, sym, subst, ℕ}
use Rattle.txn.specs.declared.choices.Choice.{Choice}
use Rattle.shared_search.specs.Gathered.{HasTrees}
use Rattle.shared_search.proofs.Gathering.{has_trees}
use Rattle.shared_search.proofs.sharing.search_all.Goals as goal

pub joined-requires : goal.joined-requires
joined-requires g c =
    let count = c.requires.cubes.0 ∙ ap (λ (cs : List Choice). 2 ^ length cs) (sym c.choices.ensures) in
    subst (λ (n : ℕ). HasTrees n c.in_ok-pick.pick) count (has_trees (g.S.CubeSolver.may c.args.solver.now) c.args.cubes c.in_ok-pick.pick c.in_ok-pick.ensures)
