use Rattle.std.proofs.Common.{◌∙◌, ◌-◌, ◌<◌, ℕ, List, get_or, sym, subst, subst₂, arith}
use Rattle.std.proofs.lemmas.Bool.{false≢true}
use Rattle.std.proofs.lemmas.List.Elements.{Contains-get_or}
use Rattle.txn.specs.declared.choices.Arc.{Arc}
use Rattle.txn.specs.Arcs.{start_of, end_of}
use Rattle.session_clocks.specs.Trees.{IsTreeOf, IsLed, IsLedTo, rooms}
use Rattle.session_clocks.proofs.FoundPaths.{tree_taken, rooms_taken, rooms_less, looked_all, looked_one}
use Rattle.session_clocks.proofs.paths.take_arcs.Goals as goal

pub loop-place-preserved-then-branch : goal.loop-place-preserved-then-branch
loop-place-preserved-then-branch c =
    let was = c.loop-place.invariant in
    let taken = rw c.if-branch.true at c.in_ok-take_arc.ensures in
    let place = c.loop-place.place - 1 in
    record {
      tree = tree_taken c.args.received.now c.args.goal c.args.arcs.now _ c.loop-place.tops c.take_arc.new.tops c.loop-place.tree.items c.take_arc.new.tree.items (Contains-get_or c.args.arcs.now place _ (omega arith)) (c.requires.starts place _ (omega arith)) was.tree taken;
      less = λ e. rooms_less c.args.received.now c.take_arc.new.tops c.loop-place.tops c.args.tops.now c.loop-place.taken
          (rooms_taken c.args.received.now c.args.goal c.args.arcs.now _ c.loop-place.tops c.take_arc.new.tops c.loop-place.tree.items c.take_arc.new.tree.items (Contains-get_or c.args.arcs.now place _ (omega arith)) (c.requires.starts place _ (omega arith)) was.tree taken) was.less was.same;
      same = λ e. absurd (false≢true (sym e));
      looked = λ e. absurd (false≢true (sym e));
    }

pub loop-place-preserved : goal.loop-place-preserved
loop-place-preserved c =
    let was = c.loop-place.invariant in
    let passed = rw c.if-branch.false at c.in_ok-take_arc.ensures in
    let place = c.loop-place.place - 1 in
    record {
      tree = subst₂ (λ (tops : List ℕ) (tree : List Arc). IsTreeOf c.args.received.now c.args.goal c.args.arcs.now tops tree) (sym passed.tops_stay) (sym passed.tree_stays) was.tree;
      less = λ e. subst (λ (tops : List ℕ). rooms c.args.received.now tops < rooms c.args.received.now c.args.tops.now) (sym passed.tops_stay) (was.less e);
      same = λ e. passed.tops_stay ∙ was.same e;
      looked = λ e k d from within.
          subst (λ (tops : List ℕ). IsLedTo tops c.args.goal (end_of (get_or c.args.arcs.now k d)) → IsLed tops (start_of (get_or c.args.arcs.now k d))) (sym passed.tops_stay)
          (looked_one c.args.goal c.args.arcs.now c.loop-place.tops place _ (omega arith) passed.not (λ j f above below. was.looked e j f (omega arith) below) k d from within);
    }

pub returns-clause-looked : goal.returns-clause-looked
returns-clause-looked c =
    looked_all c.loop-place.taken c.args.received.now c.args.goal c.args.arcs.now c.args.tops.now c.loop-place.tops c.loop-place.invariant.less c.loop-place.invariant.same
    (λ e k d within. c.loop-place.invariant.looked e k d (omega arith) within)
