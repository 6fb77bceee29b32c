use Rattle.std.proofs.Common.{◌∙◌}
use Rattle.order_check.proofs.CountedFronts.{view_received}
use Rattle.order_check.proofs.fronts.Front.received_count.Goals as goal

pub returns : goal.returns
returns c = c.count_at.ensures ∙ view_received c.args.self.now c.self.inside.parts.now c.self.inside.counts.now c.args.session c.self.view_is c.self.invariant.0 c.self.invariant.1
