use Rattle.clock_choices.specs.BranchState.{assumed}
use Rattle.polygraph.proofs.Scanned.{keeps_taken}
use Rattle.polygraph.proofs.scanning.explaining_order.Goals as goal

pub returns-clause-sides : goal.returns-clause-sides
returns-clause-sides c = keeps_taken c.args.branch.now.parts (assumed c.args.branch.now.levels) c.in_ok-order.order c.in_ok-order.ensures.known
