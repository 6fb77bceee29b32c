use Rattle.std.proofs.Common.{refl, sym, ap}
use Rattle.live_audit.proofs.Rounds.{lawful_by}
use Rattle.live_audit.proofs.searching.start.Goals as goal

pub spawn_with-requires-clause-keeps : goal.spawn_with-requires-clause-keeps
spawn_with-requires-clause-keeps g c κs within answer lawful =
    lawful_by c.args.problem c.of.result.value c.args.effort.budget c.args.effort.budget c.args.effort.depth c.args.effort.depth answer (sym c.of.ensures) refl refl lawful

pub returns-in-Err-clause-ended : goal.returns-in-Err-clause-ended
returns-in-Err-clause-ended g c =
    let search = c.in-Err.refused.value in let is = c.in-Err.ensures.err in
    lawful_by search.1 c.args.problem search.3.budget c.args.effort.budget search.3.depth c.args.effort.depth c.search.result (ap (λ f. f.1) is) (ap (λ f. f.3.budget) is) (ap (λ f. f.3.depth) is) c.search.ensures
