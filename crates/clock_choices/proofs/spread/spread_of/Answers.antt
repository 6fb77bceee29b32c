use Rattle.std.proofs.Common.{inl, inr}
use Rattle.clock_choices.proofs.spread.spread_of.Goals as goal

pub loop-step-preserved : goal.loop-step-preserved
loop-step-preserved c = λ id there. elim (c.in_ok-note_every.ensures id there) [
  | inl was ↦ c.loop-step.invariant id was
  | inr is ↦ is
]

pub returns : goal.returns
returns c =
    let noted = c.in_ok-note_all.ensures in
    rw c.into_ids.ensures (λ id. (
      (λ there. elim (noted.only id there) [
        | inl was ↦ c.loop-step.invariant id was
        | inr is ↦ is
      ]),
      (λ is. noted.here id is),
    ))
