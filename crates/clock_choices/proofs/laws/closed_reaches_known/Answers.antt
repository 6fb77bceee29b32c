use Rattle.clock_choices.proofs.Closing.{closed_reaches_known_is}
use Rattle.clock_choices.proofs.laws.closed_reaches_known.Goals as goal

pub returns : goal.returns
returns c = closed_reaches_known_is
