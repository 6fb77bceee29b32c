use Rattle.std.proofs.Common.{[], ◌∷◌, ◌++◌}
use Rattle.log_text.specs.Names.{key_told}
use Rattle.log_text.specs.Saved.{number_data}
use Rattle.log_text.specs.Told.{name_data}
use Rattle.log_text.proofs.GainedData.{gains_then, gains_filled}
use Rattle.log_text.proofs.trees.push_choice.Goals as goal

pub returns : goal.returns
returns c =
    let names = c.args.names in
    let choice = c.args.choice.now in
    let start = c.new-list.result.items in
    let one = c.push_name.new.items.items in
    let two = c.push_each.new.items.items in
    let end = c.push_ends.new.items.items in
    let key = number_data (key_told names choice.key) in
    let behind = name_data names choice.writer ++ name_data names choice.other in
    gains_filled _ _ _ _ (name_data names choice.reader ++ (key ∷ behind)) c.new-list.ensures.items
    (gains_then start one end (name_data names choice.reader) (key ∷ behind) c.in_ok-push_name.ensures (gains_then one two end (key ∷ []) behind (rw c.key_told.ensures at c.in_ok-push_each.ensures) c.in_ok-push_ends.ensures))
    c.in_ok-push.ensures.items
