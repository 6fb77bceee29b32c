-- What an engine makes of a solver's answer.
use Rattle.std.specs.Prelude.{◌≡◌, ℕ, ⊤, Option}
use Rattle.order_check.specs.declared.remainder.Parts.{Parts}
use Rattle.order_check.specs.declared.remainder.Kind.{Kind}
use Rattle.order_check.specs.declared.remainder.Kind.TheVariants as kinds
use Rattle.order_check.specs.Based.{received_counts}
use Rattle.order_check.specs.Explains.{Explains}
use Rattle.order_check.specs.Verdict.{IsVerdict}
use Rattle.txn.specs.declared.refusals.Refusal.{Refusal}
use Rattle.txn.specs.declared.refusals.Refusal.TheVariants as refusals
use Rattle.refutation.specs.Refutes.{IsRefutation}
use Rattle.polygraph.specs.declared.solving.Answer.{Answer}
use Rattle.polygraph.specs.declared.solving.Answer.TheVariants as answers
use Rattle.settle.specs.Found.{IsFound}
use Rattle.settle.specs.declared.cuts.Cut.{Cut}
use Rattle.round_state.specs.declared.reports.Certificate.{Certificate}
use Rattle.round_state.specs.declared.reports.Certificate.TheVariants.{Order, Refuted, Nothing}
use Rattle.round_state.specs.declared.reports.Report.{Report}

-- An answer about parts is right, and earns this kind and this certificate. Spent claims nothing, and is never wrong.
abbrev pub IsRight : Parts → Answer → Kind → Certificate → Type 0
IsRight parts (answers.Yes order) kind (Order shown) = (shown ≡ order) × Explains parts order × IsVerdict parts kind
IsRight parts (answers.No tree) kind (Refuted shown) = (shown ≡ tree) × (kind ≡ kinds.Violated) × IsRefutation parts tree
IsRight parts answers.Spent kind Nothing = kind ≡ kinds.Spent
IsRight parts answer kind certificate = ⊥

-- An answer about parts is wrong: its order doesn't explain them, or its tree doesn't refute them.
abbrev pub IsWrong : Parts → Answer → Type 0
IsWrong parts (answers.Yes order) = ¬ Explains parts order
IsWrong parts (answers.No tree) = ¬ IsRefutation parts tree
IsWrong parts answer = ⊥

-- The report of a round, by its number, that a right answer about the snapshot earns.
pub record IsReportOn (parts : Parts) (round : ℕ) (answer : Answer) (report : Report) : Type 0 where
  pub number : report.round ≡ round
  -- how many were received of each session when the round began
  pub counts : report.counts ≡ received_counts parts
  pub right : IsRight parts answer report.kind report.certificate

-- Why an answer about the snapshot earns no report.
abbrev pub IsReportRefusal : Parts → Answer → Refusal → Type 0
IsReportRefusal parts answer refusals.BadCertificate = IsWrong parts answer
IsReportRefusal parts answer refusals.NoMemory = ⊤
IsReportRefusal parts answer refusal = ⊥

-- For private clauses.

-- a certificate's order explains the parts
abbrev pub IsShown : Parts → Certificate → Type 0
IsShown parts (Order order) = Explains parts order
IsShown parts certificate = ⊤

-- where the certificate has an order, the cut that is found is held, or none; else the one held before
abbrev pub IsHeldBy : Parts → Certificate → Option Cut → Option Cut → Type 0
IsHeldBy parts (Order order) old new = IsFound parts new
IsHeldBy parts certificate old new = new ≡ old
