use Rattle.std.proofs.lemmas.Result.{on_ok_weaker}
use Rattle.log_text.proofs.GainedData.{gains_then}
use Rattle.log_text.proofs.names.push_event_named.Goals as goal

pub returns : goal.returns
returns c = on_ok_weaker c.push_word.result (λ last. gains_then _ _ _ _ _ (rw c.from.ensures at c.in_ok-push_each.ensures) last) c.push_word.ensures
