use Rattle.std.proofs.Common.{◌≡◌, ℕ, cond, Option, Some, None, refl, ap, ◌∙◌, nat_cmp}
use Rattle.std.specs.Ordering.{eq_by_cmp}
use Rattle.std.specs.FinMap.{insert, empty, get-insert, get-empty}
use Rattle.std.proofs.lemmas.Cmp.{nat_cmp_total}
use Rattle.txn.specs.declared.transactions.TxnId.{TxnId}
use Rattle.order_check.specs.Based.{last_gone}
use Rattle.order_check.specs.Rows.{id, gone_read}
use Rattle.order_check.proofs.OrderSearch.{no_order}
use Rattle.order_check.proofs.facts.row_gone_read.Goals as goal

last : ℕ → Option TxnId
last key = cond (eq_by_cmp nat_cmp key 5) (Some (id 0 1)) (cond (eq_by_cmp nat_cmp key 0) (Some (id 0 2)) None)

last_is : (key : ℕ) → last_gone gone_read key ≡ last key
unfolding last
last_is key = get-insert nat_cmp_total (insert empty 0 (id 0 2)) 5 (id 0 1) key
    ∙ ap (cond (eq_by_cmp nat_cmp key 5) (Some (id 0 1))) (get-insert nat_cmp_total empty 0 (id 0 2) key ∙ ap (cond (eq_by_cmp nat_cmp key 0) (Some (id 0 2))) (get-empty nat_cmp key))

pub returns : goal.returns
unfolding last
returns c = no_order gone_read last 3 last_is refl
