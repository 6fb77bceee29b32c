use Rattle.std.proofs.Common.{◌∙◌, ◌∷◌, sym, refl, subst}
use Rattle.std.proofs.lemmas.Bool.{false≢true}
use Rattle.txn.specs.declared.choices.ForceStep.{ForceStep}
use Rattle.order_check.specs.Cycles.{IsForced, side_taken}
use Rattle.refutation.specs.Above.{StandsBelow}
use Rattle.refutation.proofs.PrunedTrees.{skips_step}
use Rattle.refutation.proofs.pruned.put_used.Goals as goal

pub returns-in_ok-put-clause-stands : goal.returns-in_ok-put-clause-stands
returns-in_ok-put-clause-stands c parts before =
    subst (λ (step : ForceStep). IsForced parts before step → StandsBelow parts (side_taken step ∷ before) c.args.above.now → StandsBelow parts before c.put.new.self) c.in_ok-copy_of_step.ensures (c.in_ok-put.ensures.stands parts before)

pub returns-else-needs-clause-stands : goal.returns-else-needs-clause-stands
returns-else-needs-clause-stands c parts before is stands =
    let needs = c.needs.ensures c.args.step.now refl refl in
    skips_step parts before c.args.step.now c.args.above.now (λ has. absurd (false≢true (sym c.if-needs.false ∙ needs.1 has))) stands
