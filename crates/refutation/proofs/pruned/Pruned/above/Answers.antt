use Rattle.std.proofs.Common.{◌≡◌, ◌≤◌, ◌+◌, ◌-◌, ◌∙◌, List, length, take, subst, sym, ap, refl, arith}
use Rattle.std.proofs.lemmas.List.{take_all}
use Rattle.std.proofs.lemmas.Result.{IfOk-weaker}
use Rattle.txn.specs.declared.choices.ForceStep.{ForceStep}
use Rattle.order_check.specs.Cycles.{sides_after}
use Rattle.refutation.specs.declared.trees.Tree.{Tree}
use Rattle.refutation.specs.Above.{StandsBelow}
use Rattle.refutation.specs.Refutes.{depth_of}
use Rattle.refutation.proofs.PrunedTrees.{turn_put}
use Rattle.refutation.proofs.pruned.Pruned.above.Goals as goal

pub loop-place-init : goal.loop-place-init
loop-place-init c = record {
  stands = λ parts taken forced stands. subst (λ (steps : List ForceStep). StandsBelow parts (sides_after taken steps) c.of-above.result) (sym (take_all (length c.args.steps.now) c.args.steps.now (omega arith))) stands;
  tree = refl;
}

pub loop-place-preserved : goal.loop-place-preserved
loop-place-preserved c =
    let place = c.loop-place.place - 1 in
    let some = c.loop-place-test.true in
    let within : c.loop-place.place ≤ length c.args.steps.now = c.loop-place.auto.place in
    record {
      stands = λ parts taken forced stands. turn_put parts taken c.args.steps.now place c.loop-place.place c.index-steps-place.result c.loop-place.above c.put_used.new.above (omega (arith, some)) (omega (arith, some, within)) c.index-steps-place.is c.in_ok-put_used.ensures.stands forced (c.loop-place.invariant.stands parts taken forced stands);
      tree = c.in_ok-put_used.ensures.tree ∙ c.loop-place.invariant.tree;
    }

pub returns-clause-stands : goal.returns-clause-stands
returns-clause-stands c =
    let none : c.loop-place.place ≡ 0 = omega (arith, c.loop-place-test.false) in
    IfOk-weaker c.end.result _ _ (λ whole h parts taken forced stands. h parts taken (subst (λ n. StandsBelow parts (sides_after taken (take n c.args.steps.now)) c.loop-place.above) none (c.loop-place.invariant.stands parts taken forced (c.of-above.ensures.stands parts (sides_after taken c.args.steps.now) stands)))) c.end.ensures.stands

pub returns-clause-depth : goal.returns-clause-depth
returns-clause-depth c =
    let same = ap (λ (tree : Tree). depth_of tree + 1) (c.loop-place.invariant.tree ∙ c.of-above.ensures.tree) in
    IfOk-weaker c.end.result _ _ (λ whole low. subst (λ n. depth_of whole.tree ≤ n) same low) c.end.ensures.depth
