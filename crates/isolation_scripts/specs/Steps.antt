-- Steps of an engine of split histories.
use Rattle.std.specs.Prelude.{ℕ, ⊤}
use Rattle.round_state.specs.declared.steps.Step.{Step}
use Rattle.round_state.specs.declared.steps.Step.TheVariants.{Offer, Join}
use Rattle.isolation_histories.specs.Logged.{split_logged}
use Rattle.isolation_histories.specs.Offered.{CanBeOffered}

-- the step that the engine makes
abbrev pub split_step : Step → Step
split_step (Offer logged) = Offer (split_logged logged)
split_step (Join logged) = Join (split_logged logged)
split_step step = step

-- what it offers can be split, where there may be so many sessions
abbrev pub CanBeMade : ℕ → Step → Type 0
CanBeMade sessions (Offer logged) = CanBeOffered sessions logged.fragment
CanBeMade sessions (Join logged) = CanBeOffered sessions logged.fragment
CanBeMade sessions step = ⊤
