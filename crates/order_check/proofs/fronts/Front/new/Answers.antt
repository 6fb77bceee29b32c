use Rattle.order_check.proofs.CountedFronts.{good_of}
use Rattle.order_check.proofs.fronts.Front.new.Goals as goal

pub returns-clause-good : goal.returns-clause-good
returns-clause-good c = good_of c.args.parts.now c.args.counts.now c.requires.good c.requires.counts
