use Rattle.std.proofs.lemmas.Result.{IfOk-weaker}
use Rattle.order_check.proofs.ExplainedFronts.{front_explained}
use Rattle.order_check.proofs.explaining.explains_front.Goals as goal

pub returns : goal.returns
returns c = IfOk-weaker c.explains_all.result _ _ (λ found is. front_explained c.args.parts.now c.new-front.result c.args.counts.now c.args.order.now found c.new-front.ensures.value is) c.explains_all.ensures
