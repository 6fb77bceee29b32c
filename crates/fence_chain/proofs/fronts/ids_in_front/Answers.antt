use Rattle.std.proofs.Common.{List, subst}
use Rattle.txn.specs.declared.transactions.TxnId.{TxnId}
use Rattle.order_check.specs.Settled.{InFront}
use Rattle.fence_chain.specs.Picked.{IsPicked}
use Rattle.fence_chain.proofs.Chained.{front_is}
use Rattle.fence_chain.proofs.fronts.ids_in_front.Goals as goal

pub returns-clause-members : goal.returns-clause-members
returns-clause-members c =
    let parts = c.args.known.now.parts in
    let picked = subst (λ (xs : List TxnId). IsPicked (InFront parts c.args.fence) xs c.in_ok-front.front.items) c.as_slice.ensures.value c.in_ok-front.ensures in
    front_is parts c.args.fence c.in_ok-ids.ids.items c.in_ok-front.front.items c.requires c.in_ok-ids.ensures.members c.in_ok-ids.ensures.known picked
