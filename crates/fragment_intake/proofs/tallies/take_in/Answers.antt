use Rattle.fragment_intake.proofs.Steps.{merge_keeps}
use Rattle.fragment_intake.proofs.tallies.take_in.Goals as goal

pub absorb-requires-clause-rule : goal.absorb-requires-clause-rule
absorb-requires-clause-rule c = merge_keeps _ _ _ _
