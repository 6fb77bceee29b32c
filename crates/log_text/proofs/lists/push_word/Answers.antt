use Rattle.std.proofs.Common.{◌∙◌, ap}
use Rattle.serde_json.specs.Data.{string}
use Rattle.log_text.proofs.GainedData.{gains_value}
use Rattle.log_text.proofs.lists.push_word.Goals as goal

pub returns : goal.returns
returns c = gains_value _ _ _ _ c.in_ok-push.ensures.items (c.from.ensures ∙ ap string c.in_ok-word.ensures.ok)
