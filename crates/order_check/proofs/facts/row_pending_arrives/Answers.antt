use Rattle.std.proofs.Common.{refl, [], ◌∷◌, lit<}
use Rattle.std.proofs.lemmas.Bool.{false≢true}
use Rattle.order_check.specs.Rows.{id, pending, arrived}
use Rattle.order_check.proofs.Fresh.{whole_by_test, serial_by_test}
use Rattle.order_check.proofs.facts.row_pending_arrives.Goals as goal

pub returns-clause-waiting : goal.returns-clause-waiting
returns-clause-waiting c =
    ((id 1 0 ∷ [], whole_by_test pending (id 1 0 ∷ []) refl refl), (id 1 0, id 0 0, 5, (0, lit< tt, refl), λ received. false≢true received))

pub returns-clause-arrived : goal.returns-clause-arrived
returns-clause-arrived c = serial_by_test arrived (id 0 0 ∷ id 1 0 ∷ []) refl refl refl
