use Rattle.fragment_intake.proofs.Steps.{begins, fork_keeps}
use Rattle.fragment_intake.proofs.desks.Desk.new.Goals as goal

pub ruled-requires-clause-rule : goal.ruled-requires-clause-rule
ruled-requires-clause-rule c = begins

pub another-first-requires-clause-rule : goal.another-first-requires-clause-rule
another-first-requires-clause-rule c = fork_keeps _ _

pub another-second-requires-clause-rule : goal.another-second-requires-clause-rule
another-second-requires-clause-rule c = fork_keeps _ _

pub another-third-requires-clause-rule : goal.another-third-requires-clause-rule
another-third-requires-clause-rule c = fork_keeps _ _

pub another-fourth-requires-clause-rule : goal.another-fourth-requires-clause-rule
another-fourth-requires-clause-rule c = fork_keeps _ _
