use Rattle.std.proofs.Common.{[], ◌∷◌}
use Rattle.std.specs.Prelude.{codes}
use Rattle.serde_json.specs.Data.{string}
use Rattle.log_text.specs.Told.{choice_data}
use Rattle.log_text.proofs.GainedData.{gains_then, gains_filled}
use Rattle.log_text.proofs.trees.push_split.Goals as goal

pub returns : goal.returns
returns c =
    gains_filled _ _ _ _ (string (codes "split") ∷ choice_data c.args.names c.args.choice.now ∷ []) c.new-list.ensures.items (gains_then _ _ _ _ _ c.in_ok-push_word.ensures c.in_ok-push_choice.ensures) c.in_ok-push.ensures.items
