use Rattle.refutation.proofs.SideSets.{found_in, removed_from}
use Rattle.refutation.proofs.used.UsedSides.remove.Goals as goal

pub returns-clause-was : goal.returns-clause-was
returns-clause-was c = found_in c.self.inside.sides c.args.self.now c.args.side c.remove.result c.self.view_is c.remove.ensures.test

pub returns-clause-others : goal.returns-clause-others
returns-clause-others c = removed_from c.self.inside.sides c.remove.new.self c.args.self.now c.args.side c.self.view_is c.remove.ensures.updates
