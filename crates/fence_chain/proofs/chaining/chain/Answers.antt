use Rattle.std.proofs.Common.{List, sym, subst}
use Rattle.std.specs.Prelude.{◌↔◌, All, Contains}
use Rattle.txn.specs.declared.transactions.TxnId.{TxnId}
use Rattle.order_check.specs.declared.remainder.Parts.{Parts}
use Rattle.order_check.specs.Based.{Remains}
use Rattle.clock_choices.specs.OrderedAmong.{AreOrdered, IsOrderedAmong}
use Rattle.fence_chain.specs.Chains.{IsRemainingFence}
use Rattle.fence_chain.specs.Picked.{AreInOrder, IsPicked, IsSorting}
use Rattle.fence_chain.proofs.Chained.{is_chain, picked_ordered, picked_remain}
use Rattle.fence_chain.proofs.chaining.chain.Goals as goal

pub ordered_with_all-requires-clause-ids : goal.ordered_with_all-requires-clause-ids
ordered_with_all-requires-clause-ids c =
    let parts = c.args.known.now.parts in
    let fences = subst (λ (xs : List TxnId). IsPicked (IsRemainingFence parts) xs c.in_ok-fences.fences.items) c.as_slice.ensures.value (subst (λ (p : Parts). IsPicked (IsRemainingFence p) c.as_slice.result.now c.in_ok-fences.fences.items) c.parts.ensures.value c.in_ok-fences.ensures) in
    subst (λ (xs : List TxnId). All (Remains parts) xs) (sym c.as_slice-all.ensures.value) (picked_remain parts c.in_ok-ids.ids.items c.in_ok-fences.fences.items fences)

pub ordered_with_all-requires-clause-others : goal.ordered_with_all-requires-clause-others
ordered_with_all-requires-clause-others c =
    let parts = c.args.known.now.parts in
    let fences = subst (λ (xs : List TxnId). IsPicked (IsRemainingFence parts) xs c.in_ok-fences.fences.items) c.as_slice.ensures.value (subst (λ (p : Parts). IsPicked (IsRemainingFence p) c.as_slice.result.now c.in_ok-fences.fences.items) c.parts.ensures.value c.in_ok-fences.ensures) in
    subst (λ (xs : List TxnId). All (Remains parts) xs) (sym c.as_slice-all.ensures.value) (picked_remain parts c.in_ok-ids.ids.items c.in_ok-fences.fences.items fences)

pub chain_of-requires-clause-rise : goal.chain_of-requires-clause-rise
chain_of-requires-clause-rise c =
    let rise = subst (λ (xs : List TxnId). AreInOrder xs → AreInOrder c.in_ok-chained.chained.items) c.as_slice-all.ensures.value c.in_ok-chained.ensures.rise in
    subst (λ (xs : List TxnId). AreInOrder xs) (sym c.as_slice-2.ensures.value) (rise c.in_ok-fences.ensures.rise)

pub chain_of-requires-clause-ordered : goal.chain_of-requires-clause-ordered
chain_of-requires-clause-ordered c =
    let parts = c.args.known.now.parts in
    let members = subst (λ (xs : List TxnId). (id : TxnId) → Contains c.in_ok-chained.chained.items id ↔ (Contains xs id × IsOrderedAmong parts xs id)) c.as_slice-all.ensures.value c.in_ok-chained.ensures.members in
    subst (λ (xs : List TxnId). (a b : TxnId) → Contains xs a → Contains xs b → AreOrdered parts a b) (sym c.as_slice-2.ensures.value) (picked_ordered parts c.in_ok-fences.fences.items c.in_ok-chained.chained.items members)

pub returns : goal.returns
returns c =
    let parts = c.args.known.now.parts in
    let fences = subst (λ (xs : List TxnId). IsPicked (IsRemainingFence parts) xs c.in_ok-fences.fences.items) c.as_slice.ensures.value (subst (λ (p : Parts). IsPicked (IsRemainingFence p) c.as_slice.result.now c.in_ok-fences.fences.items) c.parts.ensures.value c.in_ok-fences.ensures) in
    let members = subst (λ (xs : List TxnId). (id : TxnId) → Contains c.in_ok-chained.chained.items id ↔ (Contains xs id × IsOrderedAmong parts xs id)) c.as_slice-all.ensures.value c.in_ok-chained.ensures.members in
    let sorting = subst (λ (xs : List TxnId). IsSorting parts xs c.in_ok-chain.chain.items) c.as_slice-2.ensures.value c.in_ok-chain.ensures in
    is_chain parts c.in_ok-ids.ids.items c.in_ok-fences.fences.items c.in_ok-chained.chained.items c.in_ok-chain.chain.items c.in_ok-ids.ensures.members fences members sorting
