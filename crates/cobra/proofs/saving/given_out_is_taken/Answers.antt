use Rattle.cobra.proofs.Checkpoints.{given_out_is_taken}
use Rattle.cobra.proofs.saving.given_out_is_taken.Goals as goal

pub returns : goal.returns
returns c = given_out_is_taken
