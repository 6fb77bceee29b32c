use Rattle.std.proofs.Common.{◌≡◌, ◌<◌, ◌∙◌, List, [], ap, refl, sym, subst, arith}
use Rattle.fragment_intake.specs.declared.rules.Parcel.{Parcel}
use Rattle.fragment_intake.specs.declared.rules.View.{View}
use Rattle.fragment_intake.specs.Collectors.{Counts}
use Rattle.fragment_intake.proofs.Counted.{counts_after, audits_still}
use Rattle.fragment_intake.proofs.Steps.{take_keeps, settles}
use Rattle.fragment_intake.proofs.desks.Desk.take.Goals as goal

pub pop_as-requires-clause-rule : goal.pop_as-requires-clause-rule
pop_as-requires-clause-rule g c =
    let one : c.pass.inside.pass.me.0.client.audits ≡ 1 = ap (λ (v : View). v.audits) c.pass.invariant.1 in
    let audits : 0 < c.pass.inside.pass.me.0.client.audits = omega (arith, one) in
    (take_keeps _ _ audits, settles _ _ audits)

pub invariant_of-pass-2 : goal.invariant_of-pass-2
invariant_of-pass-2 g c =
    let v = c.pass.inside.pass.me.0.client in
    let w = c.pop_as.new.pass.me.0.client in
    let t = c.in_ok-parcel.ensures.rule in
    let a = counts_after c.pass.inside.taken c.count.new.counts v w c.in_ok-parcel.parcel [] v.got refl c.pass.invariant.2 t c.count.ensures in
    (c.pop_as.ensures.queue.2 ∙ c.pass.invariant.0, audits_still v w c.in_ok-parcel.parcel c.pass.invariant.1 t, subst (λ (l : List Parcel). Counts c.count.new.counts l) (sym a.0) a.1)
