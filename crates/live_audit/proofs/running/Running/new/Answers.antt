use Rattle.live_audit.proofs.Ends.{none_ended}
use Rattle.live_audit.proofs.running.Running.new.Goals as goal

pub returns-clause-ended : goal.returns-clause-ended
returns-clause-ended c = none_ended
