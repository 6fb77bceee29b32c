-- For private clauses: what an engine keeps in a round and after it.
use Rattle.std.specs.Prelude.{Option, Some, None}
use Rattle.clock_choices.specs.SaturatedState.{SaturatedState}
use Rattle.polygraph.specs.ProblemState.{ProblemState}
use Rattle.round_state.specs.declared.phases.Phase.{Phase}
use Rattle.round_state.specs.declared.phases.Phase.TheVariants.{Between, Ended, Open}
use Rattle.round_state.specs.declared.snapshots.OpenRound.{OpenRound}

-- what is held of the round that is open
abbrev pub begun_in : Phase → Option OpenRound
begun_in (Between known) = None
begun_in (Ended problem) = None
begun_in (Open begun problem) = Some begun

-- the problem of the round that is open
abbrev pub problem_in : Phase → Option ProblemState
problem_in (Between known) = None
problem_in (Ended problem) = None
problem_in (Open begun problem) = Some problem

-- the relation that is kept
abbrev pub known_in : Phase → Option SaturatedState
known_in (Between known) = known
known_in (Ended problem) = Some problem.known
known_in (Open begun problem) = Some problem.known
