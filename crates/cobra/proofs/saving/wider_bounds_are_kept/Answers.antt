use Rattle.cobra.proofs.Checkpoints.{wider_bounds_are_kept}
use Rattle.cobra.proofs.saving.wider_bounds_are_kept.Goals as goal

pub returns : goal.returns
returns c = wider_bounds_are_kept
