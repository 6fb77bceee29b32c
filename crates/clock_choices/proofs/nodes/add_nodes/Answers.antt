use Rattle.std.proofs.Common.{◌≡◌, ◌∙◌, ℕ, ◌<◌, ◌≤◌, List, length, get_or, refl, sym, subst, subst₂, arith, All}
use Rattle.txn.specs.declared.choices.Arc.{Arc}
use Rattle.clock_choices.specs.Nodes.{HaveMore, IsArcThere}
use Rattle.clock_choices.proofs.MoreNodes.{more_none, more_one}
use Rattle.clock_choices.proofs.nodes.add_nodes.Goals as goal

pub loop-done-init : goal.loop-done-init
loop-done-init c = record { gone = refl; arcs = refl; received = more_none c.args.graph.now.received c.args.session }

pub add_or_remove-requires : goal.add_or_remove-requires
add_or_remove-requires c =
    let was = c.loop-done.invariant in
    let more = was.received in
    let one = more.one in
    let first = c.requires.first in
    let number = c.requires.number in
    record {
      session = subst (λ (gone : List ℕ). c.args.session < length gone) (sym was.gone) c.requires.session;
      order = subst (λ (gone : List ℕ). get_or gone c.args.session 0 ≤ c.args.first) (sym was.gone) c.requires.order;
      last = omega (arith, one, first);
      number = omega (arith, number);
      untouched = (c.args.graph.now.received, more, subst₂ (λ (gone : List ℕ) (arcs : List Arc). All (IsArcThere gone c.args.graph.now.received) arcs) (sym was.gone) (sym was.arcs) c.requires.there);
    }

pub loop-done-preserved : goal.loop-done-preserved
loop-done-preserved c =
    let was = c.loop-done.invariant in
    record {
      gone = c.add_or_remove.ensures.gone ∙ was.gone;
      arcs = c.add_or_remove.ensures.arcs ∙ was.arcs;
      received = more_one c.args.graph.now.received c.loop-done.graph.received c.add_or_remove.new.graph.received c.args.session c.loop-done.done was.received c.in_ok-add_or_remove.ensures.ok;
    }

pub returns-clause-ok : goal.returns-clause-ok
returns-clause-ok c =
    let done : c.loop-done.done ≡ c.args.count = omega arith in
    subst (λ (n : ℕ). HaveMore c.args.graph.now.received c.loop-done.graph.received c.args.session n) done c.loop-done.invariant.received
