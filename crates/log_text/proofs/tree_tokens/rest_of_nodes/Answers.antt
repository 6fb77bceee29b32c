use Rattle.std.proofs.Common.{◌≡◌, ℕ, suc, ◌-◌, ◌≤◌, ◌∙◌, arith}
use Rattle.log_text.specs.Owed.{owed_behind}
use Rattle.log_text.specs.declared.tree_items.TreeItem.{TreeItem}
use Rattle.log_text.specs.declared.tree_items.TreeItem.TheVariants.{Force, Split, Close}
use Rattle.log_text.proofs.OwedRead.{nodes_more, nodes_end, nodes_none, nodes_over}
use Rattle.log_text.proofs.tree_tokens.rest_of_nodes.Goals as goal

pub returns-then-owed-eq0 : goal.returns-then-owed-eq0
returns-then-owed-eq0 c = nodes_over c.args.names _ _ _ _ _ (omega arith) c.loop-alloc.invariant.0 c.loop-alloc-test.ensures.0

pub owed_behind-owed-requires : goal.owed_behind-owed-requires
owed_behind-owed-requires c = (omega arith, omega (arith, c.loop-alloc.nodes.ok.0, c.loop-alloc.nodes.small, c.loop-alloc.invariant.1))

-- an item owes at most one tree more
one_more : (more : ℕ) (x : TreeItem) → owed_behind more x ≤ suc (suc more)
one_more more (Force step) = omega arith
one_more more (Split choice) = omega arith
one_more more (Close leaf) = omega arith

pub loop-alloc-preserved : goal.loop-alloc-preserved
loop-alloc-preserved c =
    let x = c.in-Some.node in
    let some : c.loop-alloc.owed ≡ suc (c.loop-alloc.owed - 1) = omega arith in (
      nodes_more c.args.names _ _ _ _ _ _ _ _ (c.loop-alloc.owed - 1) x some c.loop-alloc.invariant.0 c.loop-alloc-test.ensures.1 (rw c.in-Some.is at c.in_ok-node.ensures) c.in_ok-push-in-Some.ensures.items c.owed_behind-owed.ensures,
      omega (arith, some, one_more (c.loop-alloc.owed - 1) x, c.owed_behind-owed.ensures, c.loop-alloc.invariant.1, c.in_ok-push-in-Some.ensures.len, c.loop-alloc.nodes.ok.0, c.push.new.self.ok.0),
    )

pub returns-in-None : goal.returns-in-None
returns-in-None c =
    let some : c.loop-alloc.owed ≡ suc (c.loop-alloc.owed - 1) = omega arith in
    nodes_none c.args.names _ _ _ _ _ _ _ (c.loop-alloc.owed - 1) some c.loop-alloc.invariant.0 c.loop-alloc-test.ensures.0 c.loop-alloc-test.ensures.1 (rw c.in-None.is at c.in_ok-node.ensures)

pub returns : goal.returns
returns c = nodes_end c.args.names _ _ _ _ _ _ c.loop-alloc.invariant.0 c.loop-alloc-test.ensures (c.new.ensures ∙ c.shrink_to_fit.ensures.items)
