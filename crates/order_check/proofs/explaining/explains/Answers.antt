use Rattle.std.proofs.Common.{◌∙◌}
use Rattle.std.proofs.lemmas.Result.{IfOk-weaker}
use Rattle.order_check.proofs.ExplainedFronts.{all_counts, whole_explained}
use Rattle.order_check.proofs.explaining.explains.Goals as goal

pub explains_front-requires-clause-counts : goal.explains_front-requires-clause-counts
explains_front-requires-clause-counts c = all_counts c.args.parts.now c.as_slice.result.now c.requires (c.as_slice.ensures ∙ c.in_ok-counts.ensures)

pub returns : goal.returns
returns c =
    IfOk-weaker c.explains_front.result _ _ (λ found is. whole_explained c.args.parts.now c.as_slice.result.now c.args.order.now found c.requires (c.as_slice.ensures ∙ c.in_ok-counts.ensures) is)
    c.explains_front.ensures
