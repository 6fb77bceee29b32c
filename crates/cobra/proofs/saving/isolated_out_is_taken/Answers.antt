use Rattle.cobra.proofs.IsolatedCheckpoints.{isolated_out_is_taken}
use Rattle.cobra.proofs.saving.isolated_out_is_taken.Goals as goal

pub returns : goal.returns
returns c = isolated_out_is_taken c.given_is_taken.ensures
