use Rattle.std.proofs.Common.{refl, [], ◌∷◌, lit<}
use Rattle.std.proofs.lemmas.Bool.{false≢true}
use Rattle.order_check.specs.Rows.{id, second_source_pending, two_sources}
use Rattle.order_check.proofs.Fresh.{whole_by_test, whole_refuted}
use Rattle.order_check.proofs.facts.row_two_sources.Goals as goal

pub returns-clause-waiting : goal.returns-clause-waiting
returns-clause-waiting c =
    ((id 0 0 ∷ id 1 0 ∷ [], whole_by_test second_source_pending (id 0 0 ∷ id 1 0 ∷ []) refl refl), (id 1 0, id 0 1, 5, (1, lit< tt, refl), λ received. false≢true received))

pub returns-clause-both : goal.returns-clause-both
returns-clause-both c = whole_refuted two_sources 4 refl
