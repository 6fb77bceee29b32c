use Rattle.std.proofs.Common.{[], ◌∷◌}
use Rattle.std.specs.Prelude.{codes}
use Rattle.serde_json.specs.Data.{string}
use Rattle.log_text.specs.Saved.{number_data}
use Rattle.log_text.specs.Told.{choice_data, cycle_data}
use Rattle.log_text.specs.Trees.{side_number}
use Rattle.log_text.proofs.GainedData.{gains_then, gains_filled}
use Rattle.log_text.proofs.trees.push_step.Goals as goal

pub returns : goal.returns
returns c =
    let start = c.new-list.result.items in
    let one = c.push_word.new.items.items in
    let two = c.push_choice.new.items.items in
    let three = c.push_each.new.items.items in
    let end = c.push_cycle.new.items.items in
    let choice = choice_data c.args.names c.args.step.now.choice in
    let side = number_data (side_number c.args.step.now.side) in
    let cycle = cycle_data c.args.names c.args.step.now.cycle in
    gains_filled _ _ _ _ (string (codes "force") ∷ choice ∷ side ∷ cycle ∷ []) c.new-list.ensures.items
    (gains_then start one end (string (codes "force") ∷ []) (choice ∷ side ∷ cycle ∷ []) c.in_ok-push_word.ensures (gains_then one two end (choice ∷ []) (side ∷ cycle ∷ []) c.in_ok-push_choice.ensures (gains_then two three end (side ∷ []) (cycle ∷ []) (rw c.side_number.ensures at c.in_ok-push_each.ensures) (rw c.as_slice.ensures at c.in_ok-push_cycle.ensures))))
    c.in_ok-push.ensures.items
