use Rattle.std.proofs.Common.{◌≡◌, ◌∙◌, ◌+◌, ◌++◌, ◌-◌, arith, subst, take}
use Rattle.order_check.specs.Cycles.{sides_after}
use Rattle.refutation.specs.Above.{StandsBelow}
use Rattle.clock_choices.specs.BranchState.{last_steps, taken_before}
use Rattle.polygraph.proofs.steps.put_last.Goals as goal

pub loop-place-preserved : goal.loop-place-preserved
loop-place-preserved c =
    let branch = c.args.branch.now in
    let some = c.loop-place-test.true in
    let next : c.loop-place.place ≡ c.loop-place.place - 1 + 1 = omega (arith, some) in
    record {
      stands = λ more stands. c.in_ok-put_step.ensures.stands more (subst (λ n. StandsBelow branch.parts (more ++ sides_after (taken_before branch.log branch.levels) (take n (last_steps branch.log branch.levels))) c.loop-place.above) next (c.loop-place.invariant.stands more stands));
      tree = c.in_ok-put_step.ensures.tree ∙ c.loop-place.invariant.tree;
    }

pub returns-clause-stands : goal.returns-clause-stands
returns-clause-stands c more stands =
    let branch = c.args.branch.now in
    let none : c.loop-place.place ≡ 0 = omega (arith, c.loop-place-test.false) in
    subst (λ n. StandsBelow branch.parts (more ++ sides_after (taken_before branch.log branch.levels) (take n (last_steps branch.log branch.levels))) c.loop-place.above) none (c.loop-place.invariant.stands more stands)
