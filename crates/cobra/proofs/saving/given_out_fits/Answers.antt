use Rattle.cobra.proofs.GivenSizes.{given_out_fits}
use Rattle.cobra.proofs.saving.given_out_fits.Goals as goal

pub returns : goal.returns
returns c = given_out_fits
