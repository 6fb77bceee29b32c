use Rattle.std.proofs.Common.{◌≡◌, ◌≢◌, ◌∙◌, [], ap, arith, length, subst, sym}
use Rattle.refutation.specs.Pruned.{AreAmong}
use Rattle.clock_choices.specs.BranchState.{BranchState, Level, all_taken, assumed}
use Rattle.polygraph.proofs.StepsAbove.{begins_with, ends_with, fewer_assumed, level_put}
use Rattle.polygraph.proofs.steps.put_all.Goals as goal

pub loop-alloc-preserved : goal.loop-alloc-preserved
loop-alloc-preserved c =
    let branch : BranchState = c.loop-alloc.branch in
    let next : BranchState = c.back.new.self in
    let begun : BranchState = c.args.branch.now in
    let all = assumed begun.levels in
    let some : branch.levels ≢ [] = λ none. let long = c.depth.ensures ∙ ap (length {A = Level}) none in let more = c.loop-alloc-test.true in absurd (omega (arith, long, more)) in
    let inv = c.loop-alloc.invariant in
    record {
      parts = ap (λ (b : BranchState). b.parts) c.back.ensures ∙ inv.parts;
      among = subst (λ (b : BranchState). AreAmong (assumed b.levels) all) (sym c.back.ensures) (fewer_assumed branch.levels all inv.among);
      stands = λ stands. level_put begun.parts branch next all c.loop-alloc.above c.put_last-in-loop-alloc.new.above inv.parts some c.back.ensures inv.among c.in_ok-put_last-2.ensures.stands (inv.stands stands);
      tree = c.in_ok-put_last-2.ensures.tree ∙ inv.tree;
    }

pub returns-clause-stands : goal.returns-clause-stands
returns-clause-stands c stands =
    let branch : BranchState = c.loop-alloc.branch in
    let begun : BranchState = c.args.branch.now in
    let all = assumed begun.levels in
    let none : length branch.levels ≡ 0 = let few = c.loop-alloc-test.false in let long = c.depth.ensures in omega (arith, few, long) in
    ends_with begun.parts branch.log branch.levels all c.loop-alloc.above none (c.loop-alloc.invariant.stands (c.in_ok-put_last.ensures.stands all (begins_with begun.parts all (all_taken begun.log begun.levels) c.args.above.now stands)))
