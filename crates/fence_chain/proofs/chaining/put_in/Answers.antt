use Rattle.std.proofs.Common.{List, subst}
use Rattle.txn.specs.declared.transactions.TxnId.{TxnId}
use Rattle.fence_chain.specs.Picked.{IsBetween}
use Rattle.fence_chain.proofs.Chained.{put_at}
use Rattle.fence_chain.proofs.chaining.put_in.Goals as goal

pub returns : goal.returns
returns c =
    let place = c.place_of-place.result in
    let between = subst (λ (xs : List TxnId). IsBetween c.args.known.now.parts c.args.fence xs place place) c.as_slice.ensures.value c.place_of-place.ensures in
    put_at c.args.known.now.parts c.args.fence c.args.chain.now.items c.insert.new.self.items place c.requires.chained between c.in_ok-insert.ensures.items
