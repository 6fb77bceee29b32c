use Rattle.engine_pasts.proofs.Steps.{on}
use Rattle.engine_pasts.proofs.laws.steps_hold_behind.Goals as goal

pub returns : goal.returns
returns c = on (record { go_on = c.steps_go_on.ensures; arrivals = c.arrivals_stay_behind.ensures; content = c.content_stays_behind.ensures; cuts = c.cuts_move_on.ensures })
