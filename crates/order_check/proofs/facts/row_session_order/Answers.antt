use Rattle.std.proofs.Common.{refl, [], ◌∷◌}
use Rattle.order_check.specs.Rows.{id, session_order}
use Rattle.order_check.proofs.Fresh.{whole_refuted, fresh_meets_all}
use Rattle.order_check.proofs.facts.row_session_order.Goals as goal

pub returns-clause-verdict : goal.returns-clause-verdict
returns-clause-verdict c = whole_refuted session_order 4 refl

pub returns-clause-reads_alone : goal.returns-clause-reads_alone
returns-clause-reads_alone c = fresh_meets_all session_order (id 1 1 ∷ id 0 0 ∷ id 1 0 ∷ []) refl
