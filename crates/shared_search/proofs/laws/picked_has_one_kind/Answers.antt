use Rattle.shared_search.proofs.OneKind.{one_kind}
use Rattle.shared_search.proofs.laws.picked_has_one_kind.Goals as goal

pub returns : goal.returns
returns c = one_kind c.scans_find_one.ensures
