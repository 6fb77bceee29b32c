-- For private clauses: what an engine keeps at all times.
use Rattle.std.specs.Prelude.{◌≡◌, ℕ, ◌-◌, ◌<◌, ◌≤◌, ◌^◌, ◌↔◌, List, Option, Some}
use Rattle.txn.specs.declared.transactions.TxnId.{TxnId}
use Rattle.txn.specs.History.{History}
use Rattle.session_marks.specs.declared.marks.SessionMark.{SessionMark}
use Rattle.pending_reads.specs.Waiting.{Index}
use Rattle.order_check.specs.declared.remainder.Parts.{Parts}
use Rattle.order_check.specs.Based.{received_count}
use Rattle.order_check.specs.Cuts.{IsCutOff, IsKeptFront}
use Rattle.order_check.specs.Cutting.{CanBeApplied}
use Rattle.order_check.specs.Good.{IsGood}
use Rattle.order_check.specs.Settled.{IsCutOf}
use Rattle.order_check.specs.StandsFor.{StandsFor}
use Rattle.order_check.specs.Verdict.{HasOrder}
use Rattle.settle.specs.Found.{IsFound}
use Rattle.settle.specs.declared.cuts.Cut.{Cut}
use Rattle.round_state.specs.Tracked.{AreMarksOf, IsIndexOf, IsPendingRead}

-- the cut is the one found in a front that some order explains, and the parts have only gone on since
pub record IsKeptCut (parts : Parts) (cut : Cut) : Type 0 where
  pub front : Parts
  pub kept : IsKeptFront front parts
  pub order : HasOrder front
  pub found : IsFound front (Some cut)

-- the open round's snapshot is a front of the parts, and the held cut one of such a front
pub record AreKeptFronts (parts : Parts) (asked : Option Parts) (held : Option Cut) : Type 0 where
  pub round : (snapshot : Parts) → asked ≡ Some snapshot → IsKeptFront snapshot parts
  pub cut : (cut : Cut) → held ≡ Some cut → IsKeptCut parts cut

pub record IsKept (parts : Parts) (marks : List SessionMark) (waits : Index) (asked : Option Parts) (held : Option Cut) (rounds : ℕ) : Type 0 where
  pub good : IsGood parts
  pub marks_fit : AreMarksOf marks parts
  pub waits_fit : IsIndexOf waits parts
  pub fronts : AreKeptFronts parts asked held
  -- rounds are numbered below 2^48, that of an open round too
  pub numbers : rounds ≤ 2 ^ 48 - 1
  pub number : (snapshot : Parts) → asked ≡ Some snapshot → rounds < 2 ^ 48 - 1

-- The cut can be applied to the parts, and what it leaves is what a cut of a front leaves, has as much received and the same
-- pending reads, and stands for the same histories.
pub record IsFitting (parts : Parts) (cut : Cut) : Type 0 where
  pub can : CanBeApplied parts cut.gone cut.last
  pub cut_off : (new : Parts) → IsCutOf parts new cut.gone cut.last → IsCutOff parts cut.gone new
  pub received : (new : Parts) → IsCutOf parts new cut.gone cut.last → (s : ℕ) → received_count new s ≡ received_count parts s
  pub waiting : (new : Parts) → IsCutOf parts new cut.gone cut.last → (reader writer : TxnId) (key : ℕ) → IsPendingRead parts reader key writer ↔ IsPendingRead new reader key writer
  pub stands : (new : Parts) (history : History) → IsCutOf parts new cut.gone cut.last → StandsFor parts history → StandsFor new history

-- A cut that is kept fits.
abbrev pub KeptCutsFit : Type 0
KeptCutsFit = (parts : Parts) (cut : Cut) → IsGood parts → IsKeptCut parts cut → IsFitting parts cut
