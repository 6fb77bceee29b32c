use Rattle.std.proofs.Common.{◌≡◌, List, length, Bor, ap, subst, ◌∙◌, arith}
use Rattle.refutation.specs.declared.trees.Tree.{Tree}
use Rattle.std.proofs.lemmas.List.{nil_from_length}
use Rattle.log_text.specs.Told.{nodes_data}
use Rattle.log_text.specs.Waiting.{ComeTo, waiting_weight}
use Rattle.log_text.proofs.GainedData.{gains_list}
use Rattle.log_text.proofs.WaitingTrees.{waiting_weight-push, comes_last}
use Rattle.log_text.proofs.trees.push_tree.Goals as goal

pub loop-next-smaller : goal.loop-next-smaller
loop-next-smaller c =
    let lighter = c.in_ok-push_node.ensures.lighter in
    let was = ap waiting_weight c.in-Some.ensures.items ∙ waiting_weight-push c.pop.new.self.items c.in-Some.next in
    omega (arith, lighter, was)

pub loop-next-preserved : goal.loop-next-preserved
loop-next-preserved c =
    c.in_ok-push_node.ensures.written (nodes_data c.args.names c.args.tree.now)
    (subst (λ (ts : List (Bor Tree)). ComeTo c.args.names c.loop-next.list.items ts (nodes_data c.args.names c.args.tree.now)) c.in-Some.ensures.items c.loop-next.invariant)

pub returns : goal.returns
returns c =
    let waits : length c.loop-next.waiting.items ≡ 0 = omega (arith, c.loop-next.waiting.ok.0, c.in_default.ensures.cases.0) in
    let come = subst (λ (ts : List (Bor Tree)). ComeTo c.args.names c.loop-next.list.items ts (nodes_data c.args.names c.args.tree.now)) (nil_from_length _ waits) c.loop-next.invariant in
    gains_list _ _ c.loop-next.list (nodes_data c.args.names c.args.tree.now) (comes_last c.args.names c.loop-next.list.items (nodes_data c.args.names c.args.tree.now) come) c.in_ok-push-2.ensures.items
