use Rattle.live_audit.proofs.Taking.{accepted_moves, refused_parcel_moves}
use Rattle.live_audit.proofs.live_core.Core.took.Goals as goal

pub returns-in-Ok-clause-moves : goal.returns-in-Ok-clause-moves
returns-in-Ok-clause-moves c = accepted_moves c.args.self.now.search c.args.self.now.engine c.take_in.new.self.engine c.args.parcel c.in-Ok.ensures.taken

pub returns-in-Err-clause-moves : goal.returns-in-Err-clause-moves
returns-in-Err-clause-moves c = refused_parcel_moves c.args.self.now.search c.args.self.now.engine c.take_in.new.self.engine c.args.parcel c.in-Err.refusal c.in-Err.ensures.taken
