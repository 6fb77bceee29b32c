use Rattle.round_state.proofs.Raised.{mark_told}
use Rattle.round_state.proofs.tracking.mark_in.Goals as goal

pub returns : goal.returns
returns c = mark_told c.args.parts.now c.args.session c.mark_of.result c.received_count.result c.is_closed.result c.mark_of.ensures c.received_count.ensures c.is_closed.ensures
