-- What is held after a round.
use Rattle.std.proofs.Common.{Option, sym, subst}
use Rattle.order_check.specs.declared.remainder.Parts.{Parts}
use Rattle.order_check.specs.declared.remainder.Kind.{Kind}
use Rattle.order_check.specs.declared.remainder.Kind.TheVariants as kinds
use Rattle.polygraph.specs.declared.solving.Answer.{Answer}
use Rattle.polygraph.specs.declared.solving.Answer.TheVariants as answers
use Rattle.settle.specs.declared.cuts.Cut.{Cut}
use Rattle.round_state.specs.Solving.{IsRight, IsHeldBy}
use Rattle.round_state.specs.Steps.{IsHeldAfter}
use Rattle.round_state.specs.declared.reports.Certificate.{Certificate}
use Rattle.round_state.specs.declared.reports.Certificate.TheVariants.{Order, Refuted, Nothing}

-- what is held holds the certificate is held holds the kind
pub held_after : (parts : Parts) (answer : Answer) (kind : Kind) (certificate : Certificate) (old new : Option Cut) → IsRight parts answer kind certificate → IsHeldBy parts certificate old new → IsHeldAfter parts kind old new
held_after parts (answers.Yes order) kinds.Serial (Order shown) old new right holds = holds
held_after parts (answers.Yes order) kinds.Pending (Order shown) old new right holds = holds
held_after parts (answers.Yes order) kinds.Violated (Order shown) old new right holds = absurd (right.2 (order, right.1))
held_after parts (answers.Yes order) kinds.Spent (Order shown) old new right holds = absurd right.2
held_after parts (answers.No tree) kind (Refuted shown) old new right holds = subst (λ (k : Kind). IsHeldAfter parts k old new) (sym right.1) holds
held_after parts answers.Spent kind Nothing old new right holds = subst (λ (k : Kind). IsHeldAfter parts k old new) (sym right) holds
held_after parts answer kind certificate old new right holds = absurd right
