use Rattle.std.proofs.Common.{◌≡◌, ◌∙◌, sym, ap, subst, List}
use Rattle.txn.specs.declared.transactions.TxnId.{TxnId}
use Rattle.order_check.specs.Explains.{KeepsSessions}
use Rattle.order_check.specs.TakenSides.{KeepsAllKnown}
use Rattle.clock_choices.specs.BranchState.{assumed}
use Rattle.clock_choices.specs.Ranks.{ids_of}
use Rattle.polygraph.proofs.Ranked.{AreSorted, sorted_sessions, sorted_known}
use Rattle.polygraph.proofs.ordering.order_of.Goals as goal

are_sorted : (c : goal.After-drop-ranks-2) → AreSorted c.in_ok-ranks.ranks.items c.sort_by_count.new.ranks.items
are_sorted c = record {
  permutation = c.in_ok-sort_by_count.ensures.permutation;
  sorted = c.in_ok-sort_by_count.ensures.sorted;
  stable = c.in_ok-sort_by_count.ensures.stable;
}

order_is : (c : goal.After-drop-ranks-2) → ids_of c.sort_by_count.new.ranks.items ≡ c.new-order.result
order_is c = sym (c.new-order.ensures ∙ c.in_ok-ids.ensures ∙ ap ids_of c.deref.ensures.value)

pub returns-clause-sessions : goal.returns-clause-sessions
returns-clause-sessions c =
    let state = c.args.branch.now in
    let ranks = c.in_ok-ranks.ensures in
    let kept = sorted_sessions state.parts (assumed state.levels) c.in_ok-ranks.ranks.items c.sort_by_count.new.ranks.items c.requires ranks.sessions ranks.members ranks.counts (are_sorted c) in
    subst (λ (order : List TxnId). KeepsSessions state.parts order) (order_is c) kept

pub returns-clause-known : goal.returns-clause-known
returns-clause-known c =
    let state = c.args.branch.now in
    let ranks = c.in_ok-ranks.ensures in
    let kept = sorted_known state.parts (assumed state.levels) c.in_ok-ranks.ranks.items c.sort_by_count.new.ranks.items c.requires ranks.members ranks.known ranks.counts (are_sorted c) in
    subst (λ (order : List TxnId). KeepsAllKnown state.parts (assumed state.levels) order) (order_is c) kept
