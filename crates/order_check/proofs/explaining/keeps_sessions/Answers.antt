use Rattle.std.proofs.Common.{◌≡◌, ◌+◌, [], replicate, sym, ap, subst, ◌∙◌, refl, take}
use Rattle.std.proofs.lemmas.Bool.{false≢true}
use Rattle.std.proofs.lemmas.List.{take_all, take_more}
use Rattle.order_check.specs.Replay.{AreAllTaken}
use Rattle.order_check.proofs.Orders.{id_at, first_id}
use Rattle.order_check.proofs.Sessions.{HaveCome, none_come, come_more, is_next, all_come, come_all}
use Rattle.order_check.proofs.explaining.keeps_sessions.Goals as goal

pub loop-id-init : goal.loop-id-init
loop-id-init c =
    let parts = c.args.parts.now in
    let zeros = c.in_ok-taken.ensures.items_if_clones_equal (λ y e. e) ∙ ap (λ n. replicate n 0) c.sessions.ensures in
    subst (HaveCome parts []) (sym zeros) (none_come parts)

pub loop-id-preserved : goal.loop-id-preserved
loop-id-preserved c =
    let parts = c.args.parts.now in
    let order = c.args.order.now in
    let k = c.loop-id.id-index in
    let next = c.if-not-take_next.ensures.next.0 refl in
    let more = come_more parts (take k order) c.loop-id.taken.items (id_at order k) c.loop-id.invariant next in
    subst (HaveCome parts (take (k + 1) order)) (sym (c.if-not-take_next.ensures.counted refl))
    (rw (take_more order k first_id c.loop-id-test.true) more)

pub returns-then-not-take_next : goal.returns-then-not-take_next
returns-then-not-take_next c =
    let parts = c.args.parts.now in
    let order = c.args.order.now in
    (λ h. absurd (false≢true h), λ keeps. c.if-not-take_next.ensures.next.1 (is_next parts order c.loop-id.id-index c.loop-id.taken.items c.loop-id.invariant keeps c.loop-id-test.true))

pub returns : goal.returns
returns c =
    let parts = c.args.parts.now in
    let order = c.args.order.now in
    let taken = c.loop-id.taken.items in
    let come : HaveCome parts order taken = subst (λ ids. HaveCome parts ids taken) (take_all c.loop-id.id-index order c.loop-id-test.false) c.loop-id.invariant in
    let is : c.deref.result.now ≡ taken = c.deref.ensures.value in
    let all = c.are_all_taken.ensures in
    (λ yes. all_come parts order taken come (subst (AreAllTaken parts) is (all.0 yes)), λ keeps. all.1 (subst (AreAllTaken parts) (sym is) (come_all parts order taken come keeps)))
