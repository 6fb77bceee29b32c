use Rattle.refutation.proofs.SideSets.{added_to}
use Rattle.refutation.proofs.used.UsedSides.add.Goals as goal

pub returns : goal.returns
returns c = added_to c.self.inside.sides c.insert.new.self c.args.self.now c.args.side c.self.view_is c.in_ok-insert.ensures.updates
