-- For private clauses: what is asked, as a problem and its clones share it.
use Rattle.polygraph.specs.ProblemState.{ProblemState}
use Rattle.polygraph.specs.declared.problems.Asked.{Asked}

-- what contracts see of a problem in which this is asked
abbrev pub problem_in : Asked → ProblemState
problem_in asked = record { known = asked.known; first = asked.choices.first; open_count = asked.choices.count }
