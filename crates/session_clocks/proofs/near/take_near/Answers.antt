use Rattle.std.proofs.Common.{ℕ, List, sym, subst₂, arith}
use Rattle.std.proofs.lemmas.List.Elements.{Contains-get_or}
use Rattle.txn.specs.declared.choices.Arc.{Arc}
use Rattle.session_clocks.specs.Trees.{IsTreeOf}
use Rattle.session_clocks.proofs.FoundPaths.{tree_taken}
use Rattle.session_clocks.proofs.near.take_near.Goals as goal

pub returns-in_ok-push : goal.returns-in_ok-push
returns-in_ok-push c =
    let taken = rw c.if-branch.true at c.in_ok-take_arc.ensures in
    record {
      tree = tree_taken c.args.received.now c.args.goal c.args.arcs.now _ c.args.tops.now c.take_arc.new.tops c.args.tree.now.items c.take_arc.new.tree.items (Contains-get_or c.args.arcs.now c.args.place _ (omega arith)) (c.requires.starts c.args.place _ (omega arith)) c.requires.tree taken;
    }

pub returns-else-branch : goal.returns-else-branch
returns-else-branch c =
    let passed = rw c.if-branch.false at c.in_ok-take_arc.ensures in
    record {
      tree = subst₂ (λ (tops : List ℕ) (tree : List Arc). IsTreeOf c.args.received.now c.args.goal c.args.arcs.now tops tree) (sym passed.tops_stay) (sym passed.tree_stays) c.requires.tree;
    }
