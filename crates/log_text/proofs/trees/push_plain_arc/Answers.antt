use Rattle.std.proofs.Common.{[], ◌∷◌, ◌++◌}
use Rattle.serde_json.specs.Data.{string}
use Rattle.log_text.specs.Told.{name_data}
use Rattle.log_text.proofs.GainedData.{gains_then, gains_filled}
use Rattle.log_text.proofs.trees.push_plain_arc.Goals as goal

pub returns : goal.returns
returns c =
    let names = c.args.names in
    let behind = name_data names c.args.from ++ name_data names c.args.to in
    gains_filled _ _ _ _ (string c.args.word.now ∷ behind) c.new-list.ensures.items (gains_then _ _ _ (string c.args.word.now ∷ []) behind c.in_ok-push_word.ensures c.in_ok-push_ends.ensures) c.in_ok-push.ensures.items
