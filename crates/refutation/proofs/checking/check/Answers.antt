use Rattle.std.proofs.Common.{◌∙◌}
use Rattle.std.proofs.lemmas.Result.{IfOk-weaker}
use Rattle.refutation.proofs.FlaggedParts.{all_counts, whole_refuted}
use Rattle.refutation.proofs.checking.check.Goals as goal

pub check_front-requires-clause-counts : goal.check_front-requires-clause-counts
check_front-requires-clause-counts c = all_counts c.args.parts.now c.as_slice.result.now c.front_of_itself.ensures c.kept_fronts_are_counted.ensures c.requires (c.as_slice.ensures ∙ c.in_ok-counts.ensures)

pub returns : goal.returns
returns c =
    IfOk-weaker c.check_front.result _ _ (λ found is. whole_refuted c.args.parts.now c.as_slice.result.now c.args.tree.now found c.front_of_itself.ensures c.kept_fronts_are_counted.ensures c.requires (c.as_slice.ensures ∙ c.in_ok-counts.ensures) is)
    c.check_front.ensures
