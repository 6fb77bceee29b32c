use Rattle.std.proofs.Common.{◌≡◌, ◌∙◌, ℕ, ◌+◌, ◌-◌, List, get_or, refl, sym, ap, subst, subst₂, arith, All}
use Rattle.txn.specs.declared.transactions.TxnId.{TxnId}
use Rattle.txn.specs.declared.choices.Arc.{Arc}
use Rattle.clock_choices.specs.Nodes.{HaveMore, IsArcThere}
use Rattle.clock_choices.proofs.MoreNodes.{last_untouched, less_one, none_more}
use Rattle.clock_choices.proofs.nodes.remove_nodes.Goals as goal

pub loop-left-init : goal.loop-left-init
loop-left-init c = record { gone = refl; arcs = refl; received = λ few more. more }

pub remove_node-requires : goal.remove_node-requires
remove_node-requires c =
    let was = c.loop-left.invariant in
    let session = c.args.session in
    let left = c.loop-left.left in
    let few = c.requires.untouched.0 in
    let all = c.requires.untouched.1 in
    let more = was.received few all in
    let last = c.requires.last in
    let order = c.requires.order in
    let one = more.one in
    let whole = all.one in
    let id : TxnId = record { session = session; number = c.args.first + (left - 1) } in
    let gone : get_or c.loop-left.graph.gone session 0 ≡ get_or c.args.graph.now.gone session 0 = ap (λ (xs : List ℕ). get_or xs session 0) was.gone in
    let there : All (IsArcThere c.loop-left.graph.gone few) c.loop-left.graph.arcs =
    subst₂ (λ (gone : List ℕ) (arcs : List Arc). All (IsArcThere gone few) arcs) (sym was.gone) (sym was.arcs) c.requires.untouched.2 in
    record {
      there = (omega (arith, gone, order), omega (arith, one, whole, last));
      last = omega (arith, one, whole, last);
      untouched = last_untouched c.loop-left.graph.gone few c.loop-left.graph.received session left more c.loop-left.graph.arcs id there refl (omega (arith, whole, last));
    }

pub loop-left-preserved : goal.loop-left-preserved
loop-left-preserved c =
    let was = c.loop-left.invariant in
    let left = c.loop-left.left in
    record {
      gone = c.remove_node.ensures.gone ∙ was.gone;
      arcs = c.remove_node.ensures.arcs ∙ was.arcs;
      received = λ few all.
          let e : left ≡ (left - 1) + 1 = omega arith in
          less_one few c.remove_node.new.self.received c.loop-left.graph.received c.args.session (left - 1) (subst (λ (n : ℕ). HaveMore few c.loop-left.graph.received c.args.session n) e (was.received few all)) c.remove_node.ensures.received;
    }

pub returns-clause-received : goal.returns-clause-received
returns-clause-received c = λ few all.
    let none : c.loop-left.left ≡ 0 = omega arith in
    none_more few c.loop-left.graph.received c.args.session (subst (λ (n : ℕ). HaveMore few c.loop-left.graph.received c.args.session n) none (c.loop-left.invariant.received few all))
