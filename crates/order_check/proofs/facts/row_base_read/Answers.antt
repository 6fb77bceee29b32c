use Rattle.std.proofs.Common.{◌≡◌, ℕ, [], ◌∷◌, cond, Option, Some, None, refl, ap, ◌∙◌, nat_cmp}
use Rattle.std.specs.Ordering.{eq_by_cmp}
use Rattle.std.specs.FinMap.{get, insert, empty, get-insert, get-empty}
use Rattle.std.proofs.lemmas.Cmp.{nat_cmp_total}
use Rattle.txn.specs.declared.transactions.TxnId.{TxnId}
use Rattle.order_check.specs.Rows.{id, cut_writers, base_read, overwritten_init, unwritten_init}
use Rattle.order_check.proofs.Fresh.{none_pending}
use Rattle.order_check.proofs.OrderSearch.{no_order}
use Rattle.order_check.proofs.OrderTest.{explains_by_test}
use Rattle.order_check.proofs.facts.row_base_read.Goals as goal

last : ℕ → Option TxnId
last key = cond (eq_by_cmp nat_cmp key 5) (Some (id 0 0)) (cond (eq_by_cmp nat_cmp key 0) (Some (id 0 1)) None)

last_is : (key : ℕ) → get cut_writers key ≡ last key
unfolding last
last_is key = get-insert nat_cmp_total (insert empty 0 (id 0 1)) 5 (id 0 0) key
    ∙ ap (cond (eq_by_cmp nat_cmp key 5) (Some (id 0 0))) (get-insert nat_cmp_total empty 0 (id 0 1) key ∙ ap (cond (eq_by_cmp nat_cmp key 0) (Some (id 0 1))) (get-empty nat_cmp key))

pub returns-clause-last_writer : goal.returns-clause-last_writer
unfolding last
returns-clause-last_writer c = ((id 1 0 ∷ id 1 1 ∷ [], explains_by_test base_read last last_is (id 1 0 ∷ id 1 1 ∷ []) refl refl), none_pending base_read refl)

pub returns-clause-overwritten : goal.returns-clause-overwritten
unfolding last
returns-clause-overwritten c = no_order overwritten_init last 3 last_is refl

pub returns-clause-unwritten : goal.returns-clause-unwritten
unfolding last
returns-clause-unwritten c = ((id 1 0 ∷ id 1 1 ∷ [], explains_by_test unwritten_init last last_is (id 1 0 ∷ id 1 1 ∷ []) refl refl), none_pending unwritten_init refl)
