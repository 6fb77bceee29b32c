use Rattle.demo_store.proofs.Dirty.{none_dirty}
use Rattle.demo_store.proofs.faults.dirty_key.Goals as goal

pub returns-in_err-id : goal.returns-in_err-id
returns-in_err-id c = rw c.from_residual.ensures (λ _ source dirty. none_dirty c.args.log.now c.args.key source c.in_err-id.ensures dirty)
