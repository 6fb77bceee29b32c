use Rattle.std.proofs.lemmas.Result.{on_ok_weaker}
use Rattle.log_text.proofs.GainedData.{gains_then}
use Rattle.log_text.proofs.trees.push_ends.Goals as goal

pub returns : goal.returns
returns c = on_ok_weaker c.push_name-2.result (λ last. gains_then _ _ _ _ _ c.in_ok-push_name.ensures last) c.push_name-2.ensures
