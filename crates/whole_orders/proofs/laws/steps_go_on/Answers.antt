use Rattle.whole_orders.proofs.Steps.{on}
use Rattle.whole_orders.proofs.laws.steps_go_on.Goals as goal

pub returns : goal.returns
returns c = on (record { itself = c.front_of_itself.ensures; fragment = c.fragment_keeps_front.ensures; close = c.close_keeps_front.ensures })
