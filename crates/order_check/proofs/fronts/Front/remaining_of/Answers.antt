use Rattle.order_check.proofs.CountedFronts.{view_session, view_within}
use Rattle.order_check.proofs.fronts.Front.remaining_of.Goals as goal

pub slice_bounds-result-end : goal.slice_bounds-result-end
slice_bounds-result-end c =
    view_within c.args.self.now c.self.inside.parts.now c.self.inside.counts.now c.args.session c.remaining_of.result.now c.received_count.result c.mark_of.result
    c.self.view_is c.self.invariant.0 c.self.invariant.1 c.received_count.ensures c.mark_of.ensures c.remaining_of.ensures

pub returns : goal.returns
returns c =
    view_session c.args.self.now c.self.inside.parts.now c.self.inside.counts.now c.args.session c.remaining_of.result.now c.received_count.result c.mark_of.result
    c.self.view_is c.self.invariant.0 c.self.invariant.1 c.received_count.ensures c.mark_of.ensures c.remaining_of.ensures
