use Rattle.guided_search.proofs.DecidedKinds.{decided_kinds}
use Rattle.guided_search.proofs.laws.decided_has_one_kind.Goals as goal

pub returns : goal.returns
returns c = decided_kinds c.refuted_has_no_order.ensures
