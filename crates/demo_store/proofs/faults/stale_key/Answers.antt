use Rattle.demo_store.proofs.Lies.{none_last}
use Rattle.demo_store.proofs.faults.stale_key.Goals as goal

pub returns-in_err-place : goal.returns-in_err-place
returns-in_err-place c = rw c.from_residual.ensures (λ _ source stale. none_last c.args.log.now c.args.key stale.place (c.in_err-place.ensures.last) stale.last)
