-- A refutation of a rewritten history leaves no order that keeps real time.
use Rattle.std.proofs.Common.{sym, subst}
use Rattle.order_check.specs.Laws.{SameOrdersAsWhole}
use Rattle.order_check.specs.Whole.{ExplainsWhole}
use Rattle.refutation.specs.Laws.{RefutedHasNoOrder}
use Rattle.strict_histories.specs.Refuted.{RefutedHasNoStrictOrder}
use Rattle.strict_histories.proofs.Orders.{explains_rewritten}

pub no_strict_order : SameOrdersAsWhole → RefutedHasNoOrder → RefutedHasNoStrictOrder
no_strict_order same refuted timed parts tree room bare is good refutes (order, h) = refuted parts tree good refutes (order, (same parts order bare).1 (subst (λ history. ExplainsWhole history order) (sym is) (explains_rewritten timed order room h)))
