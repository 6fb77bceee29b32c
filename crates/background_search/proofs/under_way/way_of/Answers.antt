use Rattle.background_search.proofs.WantOfMemory.{no_memory_may}
use Rattle.background_search.proofs.under_way.way_of.Goals as goal

pub returns-in-Err : goal.returns-in-Err
returns-in-Err g c = no_memory_may c.args.effort.search c.args.problem.now c.args.effort.budget c.args.effort.depth c.open_choices.ensures.problem
