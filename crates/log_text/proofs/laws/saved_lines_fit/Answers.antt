use Rattle.log_text.proofs.SavedLengths.{lines_fit}
use Rattle.log_text.proofs.laws.saved_lines_fit.Goals as goal

pub returns : goal.returns
returns c = lines_fit
