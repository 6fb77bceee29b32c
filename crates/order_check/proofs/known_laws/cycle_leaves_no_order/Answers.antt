use Rattle.order_check.proofs.OrderLaws.{never_twice}
use Rattle.order_check.proofs.TakenLaws.{keeps_known}
use Rattle.order_check.proofs.known_laws.cycle_leaves_no_order.Goals as goal

pub returns : goal.returns
returns c = λ parts order id good known h. never_twice parts order id h (keeps_known parts order id id good h known)
