-- For private clauses: the sides of a run in which nothing was done yet.
use Rattle.std.specs.Prelude.{◌≡◌, ℕ, []}
use Rattle.atomic_table.specs.Seated.{TableId}
use Rattle.fragment_intake.specs.Collectors.{Collector}
use Rattle.live_audit.specs.declared.live.AuditorSide.{AuditorSide}

-- nothing was submitted yet
abbrev pub AreFresh : Collector × Collector × Collector × Collector → Type 0
AreFresh passes = (passes.0.2 ≡ []) × (passes.1.2 ≡ []) × (passes.2.2 ≡ []) × (passes.3.2 ≡ [])

-- the auditor's side of this desk and this word, by which nothing was done yet
pub record IsFreshSide (desk : TableId × ℕ) (word : TableId) (side : AuditorSide) : Type 0 where
  pub desk_is : side.pass.0 ≡ desk.0
  pub word_is : side.seat.word ≡ word
  pub taken : side.pass.1 ≡ []
  pub sent : side.sender.sent ≡ []
  pub published : side.seat.published ≡ []
