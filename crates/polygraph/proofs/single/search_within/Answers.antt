use Rattle.std.proofs.Common.{subst, ◌∙◌, ◌^◌, ◌/◌, ℕ, ap, length, List}
use Rattle.txn.specs.declared.choices.Choice.{Choice}
use Rattle.polygraph.specs.SoFar.{IsPickedOf}
use Rattle.polygraph.proofs.Picking.{picked_of, lawful_of}
use Rattle.polygraph.proofs.single.search_within.Goals as goal

pub returns-clause-lawful : goal.returns-clause-lawful
returns-clause-lawful c =
    let count = c.count_cubes-count.ensures ∙ ap (λ (cs : List Choice). 2 ^ length cs) c.choices-choices.ensures.value in
    lawful_of c.args.problem.now c.args.budget c.args.depth c.in_ok-answer.answer c.requires c.choices-choices.ensures.problem (subst (λ (n : ℕ). IsPickedOf c.args.problem.now c.args.depth (c.args.budget / n) c.in_ok-answer.answer) count c.in_ok-answer.ensures)

pub returns-clause-picked : goal.returns-clause-picked
returns-clause-picked c =
    let count = c.count_cubes-count.ensures ∙ ap (λ (cs : List Choice). 2 ^ length cs) c.choices-choices.ensures.value in
    picked_of c.args.problem.now c.args.budget c.args.depth c.in_ok-answer.answer (subst (λ (n : ℕ). IsPickedOf c.args.problem.now c.args.depth (c.args.budget / n) c.in_ok-answer.answer) count c.in_ok-answer.ensures)
