use Rattle.refutation.proofs.SideSets.{found_in}
use Rattle.refutation.proofs.used.UsedSides.has.Goals as goal

pub returns : goal.returns
returns c = found_in c.self.inside.sides c.args.self.now c.args.side c.contains.result c.self.view_is c.contains.ensures
