use Rattle.round_state.proofs.KeptFronts.{fitting}
use Rattle.round_state.proofs.fronts.kept_cuts_fit.Goals as goal

pub returns : goal.returns
returns c = fitting c.settled_stays_settled.ensures c.cuts_of_fronts_fit.ensures c.cut_keeps_received.ensures c.cut_keeps_waiting.ensures c.cut_keeps_stands_for.ensures
