use Rattle.std.proofs.Common.{List, [], ◌∷◌, ◌++◌, Bor, map, sym, ap, ◌∙◌}
use Rattle.txn.specs.declared.choices.ForceStep.{ForceStep}
use Rattle.refutation.specs.Weights.{weight}
use Rattle.refutation.specs.declared.trees.Tree.{Tree}
use Rattle.log_text.specs.Told.{step_data, nodes_data}
use Rattle.log_text.proofs.WaitingTrees.{comes_closed, comes_forced, comes_split, lighter_forced, lighter_split}
use Rattle.log_text.proofs.trees.push_node.Goals as goal

pub returns-in_ok-push_leaf-in-Close-clause-written : goal.returns-in_ok-push_leaf-in-Close-clause-written
returns-in_ok-push_leaf-in-Close-clause-written c = λ all come.
    comes_closed c.args.names _ _ c.args.waiting.now.items c.args.tree c.in-Close.leaf all (ap (nodes_data c.args.names) c.in-Close.is) c.in_ok-push_leaf-in-Close.ensures come

pub returns-in_ok-push-in-Force-clause-written : goal.returns-in_ok-push-in-Force-clause-written
returns-in_ok-push-in-Force-clause-written c = λ all come.
    let rest = c.in-Force.rest.value in
    comes_forced c.args.names _ _ c.args.waiting.now.items _ c.args.tree c.deref.result c.as_slice.result.now rest all
    (ap (nodes_data c.args.names) c.in-Force.is ∙ ap (λ (steps : List ForceStep). map (step_data c.args.names) steps ++ nodes_data c.args.names rest) (sym c.as_slice.ensures)) c.deref.ensures c.in_ok-push-in-Force.ensures.items c.in_ok-push_steps-in-Force.ensures come

pub returns-in_ok-push-in-Force-clause-lighter : goal.returns-in_ok-push-in-Force-clause-lighter
returns-in_ok-push-in-Force-clause-lighter c =
    lighter_forced c.args.waiting.now.items _ c.args.tree c.deref.result c.in-Force.rest.value (ap weight c.in-Force.is) c.deref.ensures c.in_ok-push-in-Force.ensures.items

pub returns-in_ok-push-in-Split-2-clause-written : goal.returns-in_ok-push-in-Split-2-clause-written
returns-in_ok-push-in-Split-2-clause-written c = λ all come.
    let waits = c.in_ok-push-in-Split-2.ensures.items ∙ ap (λ (ts : List (Bor Tree)). ts ++ c.deref-in-Split-2.result ∷ []) c.in_ok-push-in-Split.ensures.items in
    comes_split c.args.names _ _ c.args.waiting.now.items _ c.args.tree c.deref-in-Split-2.result c.deref-in-Split.result c.in-Split.choice c.in-Split.first.value c.in-Split.second.value all (ap (nodes_data c.args.names) c.in-Split.is) c.deref-in-Split-2.ensures c.deref-in-Split.ensures waits c.in_ok-push_split-in-Split.ensures come

pub returns-in_ok-push-in-Split-2-clause-lighter : goal.returns-in_ok-push-in-Split-2-clause-lighter
returns-in_ok-push-in-Split-2-clause-lighter c =
    let waits = c.in_ok-push-in-Split-2.ensures.items ∙ ap (λ (ts : List (Bor Tree)). ts ++ c.deref-in-Split-2.result ∷ []) c.in_ok-push-in-Split.ensures.items in
    lighter_split c.args.waiting.now.items _ c.args.tree c.deref-in-Split-2.result c.deref-in-Split.result c.in-Split.first.value c.in-Split.second.value (ap weight c.in-Split.is) c.deref-in-Split-2.ensures c.deref-in-Split.ensures waits
