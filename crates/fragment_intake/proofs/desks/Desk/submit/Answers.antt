use Rattle.std.proofs.Common.{ℕ, List, ap, refl, length, arith}
use Rattle.atomic_table.specs.Seated.{TableId}
use Rattle.fragment_intake.specs.declared.rules.Parcel.{Parcel}
use Rattle.fragment_intake.proofs.Steps.{put_as, waits}
use Rattle.fragment_intake.proofs.desks.Desk.submit.Goals as goal

pub push_as-requires-clause-rule : goal.push_as-requires-clause-rule
push_as-requires-clause-rule g c =
    let e = ap (λ (v : TableId × ℕ × List Parcel). length v.2) c.pass.view_is in
    let f = c.requires.few in
    (put_as _ _ _ _ _ _ c.pass.invariant.1 refl c.pass.invariant.3 (omega arith) c.pass.invariant.2, waits _ _)
