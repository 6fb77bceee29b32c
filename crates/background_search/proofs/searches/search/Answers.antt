use Rattle.std.proofs.Common.{refl}
use Rattle.background_search.proofs.searches.search.Goals as goal

pub returns-in-Plain : goal.returns-in-Plain
returns-in-Plain g c = rw c.in-Plain.is (c.search.ensures.lawful, (c.args.problem.now, c.open_choices.ensures.problem, refl, c.search.ensures.picked))
