use Rattle.shared_search.proofs.Gathering.{filled_more}
use Rattle.shared_search.proofs.picking.fill.Goals as goal

pub loop-n-preserved : goal.loop-n-preserved
loop-n-preserved c = filled_more _ _ _ _ (c.in-Some.n, c.in-Some.cube) _ _ c.loop-n.invariant c.in-Some.ensures.items c.put.ensures
