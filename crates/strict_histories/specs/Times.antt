-- Which times are possible in a session.
use Rattle.std.specs.Prelude.{◌≡◌, ℕ, ◌+◌, ◌<◌, false, List, length, take, slice_get, Some, All}
use Rattle.strict_histories.specs.declared.timed.TimedTxn.{TimedTxn}
use Rattle.strict_histories.specs.Rewriting.{ended_before}

-- the transaction with this number ended neither before it began, nor before an earlier one of its session began
abbrev pub IsTimely : List TimedTxn → ℕ → Type 0
IsTimely txns number = (t : TimedTxn) → slice_get txns number ≡ Some t → All (λ earlier. ended_before t.span earlier.span ≡ false) (take (number + 1) txns)

-- so it is of each transaction of the session
abbrev pub HasGoodTimes : List TimedTxn → Type 0
HasGoodTimes txns = (number : ℕ) → number < length txns → IsTimely txns number

-- it is the first of which it isn't so
pub record IsFirstWrongTime (txns : List TimedTxn) (number : ℕ) : Type 0 where
  pub within : number < length txns
  pub wrong : ¬ IsTimely txns number
  pub first : (earlier : ℕ) → earlier < number → IsTimely txns earlier
