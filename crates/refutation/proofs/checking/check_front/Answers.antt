use Rattle.std.proofs.lemmas.Result.{IfOk-weaker}
use Rattle.refutation.proofs.FlaggedParts.{front_refuted}
use Rattle.refutation.proofs.checking.check_front.Goals as goal

pub returns : goal.returns
returns c = IfOk-weaker c.refutes_all.result _ _ (λ found is. front_refuted c.args.parts.now c.new-front.result c.args.counts.now c.args.tree.now found c.new-front.ensures.value is) c.refutes_all.ensures
