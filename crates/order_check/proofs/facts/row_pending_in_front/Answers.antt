use Rattle.std.proofs.Common.{refl, [], ◌∷◌, lit<, inr, arith}
use Rattle.std.proofs.lemmas.Bool.{false≢true}
use Rattle.order_check.specs.Known.{by_session}
use Rattle.order_check.specs.Rows.{id, pending_in_front}
use Rattle.order_check.proofs.Fresh.{whole_by_test}
use Rattle.order_check.proofs.facts.row_pending_in_front.Goals as goal

pub returns-clause-verdict : goal.returns-clause-verdict
returns-clause-verdict c =
    ((id 0 0 ∷ id 0 1 ∷ id 1 0 ∷ [], whole_by_test pending_in_front (id 0 0 ∷ id 0 1 ∷ id 1 0 ∷ []) refl refl), (id 0 0, id 1 1, 5, (0, lit< tt, refl), λ received. false≢true received))

pub returns-clause-not_settled : goal.returns-clause-not_settled
returns-clause-not_settled c settled =
    let received = settled.nothing_pending (id 0 0) (id 1 1) 5 (inr (by_session {a = id 0 0} {b = id 0 1} refl refl refl (lit< tt))) (0, lit< tt, refl) in
    absurd (omega arith)
