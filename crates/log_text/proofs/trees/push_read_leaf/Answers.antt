use Rattle.std.proofs.Common.{[], ◌∷◌, ◌++◌}
use Rattle.serde_json.specs.Data.{string}
use Rattle.log_text.specs.Names.{key_told}
use Rattle.log_text.specs.Saved.{number_data}
use Rattle.log_text.specs.Told.{name_data}
use Rattle.log_text.proofs.GainedData.{gains_then, gains_filled}
use Rattle.log_text.proofs.trees.push_read_leaf.Goals as goal

pub returns : goal.returns
returns c =
    let names = c.args.names in
    let start = c.new-list.result.items in
    let one = c.push_word.new.items.items in
    let two = c.push_name.new.items.items in
    let end = c.push_each.new.items.items in
    let word = string c.args.word.now in
    let reader = name_data names c.args.reader in
    let key = number_data (key_told names c.args.key) in
    gains_filled _ _ _ _ (word ∷ (reader ++ key ∷ [])) c.new-list.ensures.items
    (gains_then start one end (word ∷ []) (reader ++ key ∷ []) c.in_ok-push_word.ensures (gains_then one two end reader (key ∷ []) c.in_ok-push_name.ensures (rw c.key_told.ensures at c.in_ok-push_each.ensures)))
    c.in_ok-push.ensures.items
