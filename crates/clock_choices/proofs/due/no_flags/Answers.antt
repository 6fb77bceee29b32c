use Rattle.std.proofs.Common.{◌∙◌, ap, sym, inl, inr, List, Vec, Global, Bool}
use Rattle.clock_choices.specs.Due.{flag_at}
use Rattle.clock_choices.proofs.DueLists.{flag_at-push}
use Rattle.clock_choices.proofs.due.no_flags.Goals as goal

pub loop-from-preserved : goal.loop-from-preserved
loop-from-preserved c s p is =
    let flags = c.loop-from.flags.items in
    let line = c.in_ok-no_line.field-0 in
    elim (flag_at-push flags line s p (ap (λ (shown : List (Vec Bool Global)). flag_at shown s p) (sym c.in_ok-push.ensures.items) ∙ is)) [
      | inl was ↦ c.loop-from.invariant s p was
      | inr set ↦ c.in_ok-no_line.ensures p set
    ]
