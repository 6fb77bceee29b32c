-- How often a device has failed.
use Rattle.std.specs.Prelude.{◌≡◌, ℕ, ◌+◌, ◌<◌, ◌⊎◌}
use Rattle.byte_lines.specs.declared.faults.FaultCount.{FaultCount, Never, After'}

-- the number that a count stands for, which has no upper bound
abbrev pub number_of : FaultCount → ℕ
number_of Never = 0
number_of (After' marker earlier) = number_of earlier + 1

-- of two devices, by the faults of each before and after, none has failed
abbrev pub NoneFailed : ℕ → ℕ → ℕ → ℕ → Type 0
NoneFailed first first_now second second_now = (first_now ≡ first) × (second_now ≡ second)

-- exactly one of them has failed, once
abbrev pub OneFailed : ℕ → ℕ → ℕ → ℕ → Type 0
OneFailed first first_now second second_now = ((first_now ≡ first + 1) × (second_now ≡ second)) ⊎ ((first_now ≡ first) × (second_now ≡ second + 1))

-- at least one of them has
abbrev pub SomeFailed : ℕ → ℕ → ℕ → ℕ → Type 0
SomeFailed first first_now second second_now = (first < first_now) ⊎ (second < second_now)
