use Rattle.std.proofs.Common.{◌∙◌, sym, subst}
use Rattle.std.proofs.lemmas.Iterator.Consumers.{YieldsList-end, YieldsList-from_rest}
use Rattle.std.proofs.lemmas.List.{map-id}
use Rattle.refutation.proofs.UsedArcs.{HasBoth, more_added}
use Rattle.refutation.proofs.used.UsedSides.add_all.Goals as goal

pub loop-side-preserved : goal.loop-side-preserved
loop-side-preserved c = more_added c.args.self.now c.loop-side.self c.add.new.self c.loop-side.yielded c.in-Some.side c.loop-side.invariant c.in_ok-add.ensures

pub returns : goal.returns
returns c =
    let t = YieldsList-end (YieldsList-from_rest c.args.more (c.into_iter-side-iterator.ensures.into_iter_gives.0 ∙ c.more.view_is)) c.loop-side.yielded _ c.loop-side.yielded_by _ _ c.in-None.is c.next.ensures.steps in
    subst (λ sides. HasBoth c.args.self.now c.loop-side.self sides) (sym (map-id c.loop-side.yielded) ∙ t.0) c.loop-side.invariant
