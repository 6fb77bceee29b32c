use Rattle.std.proofs.Common.{◌≡◌, List, true, refl, sym, ◌∙◌, subst}
use Rattle.std.specs.Prelude.{◌↔◌, All, Contains}
use Rattle.std.proofs.lemmas.Bool.{false≢true}
use Rattle.txn.specs.declared.transactions.TxnId.{TxnId}
use Rattle.order_check.specs.declared.remainder.Parts.{Parts}
use Rattle.order_check.specs.Settled.{InFront, IsCutAt}
use Rattle.settle.specs.Lines.{HasReceivedReads}
use Rattle.settle.proofs.Tested.{fence_remains, is_settled, settled_past, settled_received}
use Rattle.settle.proofs.finding.cut_at.Goals as goal

pub returns-then-not-are_past : goal.returns-then-not-are_past
returns-then-not-are_past c = λ settled.
    let t : c.are_past.result ≡ true = c.are_past.ensures.1 (settled_past c.args.known.now.parts c.args.fence settled) in
    false≢true (sym c.if-not-are_past.true ∙ t)

pub ids_in_front-requires : goal.ids_in_front-requires
ids_in_front-requires c = fence_remains c.args.known.now.parts c.args.fence c.requires.fence.remains

pub returns-then-not-none_waits : goal.returns-then-not-none_waits
returns-then-not-none_waits c =
    let parts = c.args.known.now.parts in
    λ settled.
    let here = settled_received parts c.args.fence c.in_ok-front.front.items c.in_ok-front.ensures.members settled in
    let listed = subst (λ (xs : List TxnId). All (HasReceivedReads parts) xs) (sym c.as_slice.ensures.value) here in
    let received = subst (λ (p : Parts). All (HasReceivedReads p) c.as_slice.result.now) (sym c.parts.ensures.value) listed in
    let t : c.none_waits.result ≡ true = c.none_waits.ensures.1 received in
    false≢true (sym c.if-not-none_waits.true ∙ t)

pub last_writers-requires-clause-front : goal.last_writers-requires-clause-front
last_writers-requires-clause-front c = subst (λ (xs : List TxnId). (id : TxnId) → Contains xs id ↔ InFront c.args.known.now.parts c.args.fence id) (sym c.as_slice-2.ensures.value) c.in_ok-front.ensures.members

pub returns : goal.returns
returns c =
    let parts = c.args.known.now.parts in
    let fence = c.args.fence in
    let front = c.in_ok-front.front.items in
    let last = rw c.in-Some.is at c.in_ok-last.ensures in
    let listed = subst (λ (xs : List TxnId). All (HasReceivedReads c.parts.result.now) xs) c.as_slice.ensures.value (c.none_waits.ensures.0 c.if-not-none_waits.false) in
    let received = subst (λ (p : Parts). All (HasReceivedReads p) front) c.parts.ensures.value listed in (
      refl,
      is_settled parts fence front c.requires.fence c.in_ok-front.ensures.members (c.are_past.ensures.0 c.if-not-are_past.false) received last.each,
      subst (λ (gone : List TxnId). IsCutAt parts fence gone c.in-Some.last) (sym c.new.ensures) (record { rise = c.in_ok-front.ensures.rise; front = c.in_ok-front.ensures.members; last_of = last.last_of }),
    )
