use Rattle.std.proofs.Common.{[], ◌∷◌, ◌++◌}
use Rattle.serde_json.specs.Data.{string}
use Rattle.log_text.specs.Names.{key_told}
use Rattle.log_text.specs.Saved.{number_data}
use Rattle.log_text.specs.Told.{name_data}
use Rattle.log_text.proofs.GainedData.{gains_then, gains_filled}
use Rattle.log_text.proofs.trees.push_keyed_arc.Goals as goal

pub returns : goal.returns
returns c =
    let names = c.args.names in
    let start = c.new-list.result.items in
    let one = c.push_word.new.items.items in
    let two = c.push_each.new.items.items in
    let end = c.push_ends.new.items.items in
    let word = string c.args.word.now in
    let key = number_data (key_told names c.args.key) in
    let behind = name_data names c.args.from ++ name_data names c.args.to in
    gains_filled _ _ _ _ (word ∷ key ∷ behind) c.new-list.ensures.items
    (gains_then start one end (word ∷ []) (key ∷ behind) c.in_ok-push_word.ensures (gains_then one two end (key ∷ []) behind (rw c.key_told.ensures at c.in_ok-push_each.ensures) c.in_ok-push_ends.ensures))
    c.in_ok-push.ensures.items
