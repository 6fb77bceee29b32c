-- What contracts see of a problem.
use Rattle.std.specs.Prelude.{◌≡◌, ℕ, List, [], length, take}
use Rattle.txn.specs.declared.choices.Choice.{Choice}
use Rattle.order_check.specs.Known.{AreOpenChoices}
use Rattle.clock_choices.specs.SaturatedState.{SaturatedState}

-- the known relation of the parts that it is about, the first of the choices that this relation leaves open, and how many it does
pub record ProblemState : Type 0 where
  pub known : SaturatedState
  pub first : List Choice
  pub open_count : ℕ

-- there is a list of the open choices of the parts, in order: the first six of them are told, and all are counted
pub record IsProblem (problem : ProblemState) : Type 0 where
  pub all : List Choice
  pub open_choices : AreOpenChoices problem.known.parts [] all
  pub first_six : problem.first ≡ take 6 all
  pub counted : problem.open_count ≡ length all
