use Rattle.std.proofs.Common.{◌∙◌}
use Rattle.order_check.proofs.CountedFronts.{view_length}
use Rattle.order_check.proofs.fronts.Front.sessions.Goals as goal

pub returns : goal.returns
returns c = c.sessions.ensures ∙ view_length c.args.self.now c.self.inside.parts.now c.self.inside.counts.now c.self.view_is c.self.invariant.0 c.self.invariant.1
