use Rattle.std.proofs.Common.{List, [], sym, subst}
use Rattle.std.specs.Prelude.{◌↔◌, All, Contains}
use Rattle.std.specs.List.{AllPairs}
use Rattle.txn.specs.declared.transactions.TxnId.{TxnId}
use Rattle.order_check.specs.Based.{Remains}
use Rattle.order_check.specs.Known.{Known}
use Rattle.clock_choices.specs.OrderedAmong.{IsOrderedAmong}
use Rattle.settle.proofs.Found.{chain_remains, ids_remain, ordered_chain_is}
use Rattle.settle.proofs.finding.ordered_chain.Goals as goal

pub ordered_with_all-requires-clause-ids : goal.ordered_with_all-requires-clause-ids
ordered_with_all-requires-clause-ids c = subst (λ (xs : List TxnId). All (Remains c.args.known.now.parts) xs) (sym c.as_slice.ensures.value) (chain_remains c.args.known.now.parts c.in_ok-fences.fences.items c.in_ok-fences.ensures)

pub ordered_with_all-requires-clause-others : goal.ordered_with_all-requires-clause-others
ordered_with_all-requires-clause-others c = subst (λ (xs : List TxnId). All (Remains c.args.known.now.parts) xs) (sym c.as_slice-2.ensures.value) (ids_remain c.args.known.now.parts c.in_ok-ids.ids.items c.in_ok-ids.ensures.members)

pub returns : goal.returns
returns c =
    let parts = c.args.known.now.parts in
    let picked = c.in_ok-ordered.ordered.items in
    let members = subst (λ (xs : List TxnId). (id : TxnId) → Contains picked id ↔ (Contains xs id × IsOrderedAmong parts c.as_slice-2.result.now id)) c.as_slice.ensures.value c.in_ok-ordered.ensures.members in
    let among = subst (λ (xs : List TxnId). (id : TxnId) → Contains picked id ↔ (Contains c.in_ok-fences.fences.items id × IsOrderedAmong parts xs id)) c.as_slice-2.ensures.value members in
    let order = subst (λ (xs : List TxnId). AllPairs (Known parts []) xs → AllPairs (Known parts []) picked) c.as_slice.ensures.value c.in_ok-ordered.ensures.order in
    ordered_chain_is parts c.in_ok-ids.ids.items c.in_ok-fences.fences.items picked c.in_ok-ids.ensures.members c.in_ok-fences.ensures among (order c.in_ok-fences.ensures.order)
