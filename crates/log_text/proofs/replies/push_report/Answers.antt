use Rattle.std.proofs.Common.{[], ◌∷◌, codes}
use Rattle.std.proofs.lemmas.Result.{on_ok_weaker}
use Rattle.serde_json.specs.Data.{string}
use Rattle.log_text.specs.Replies.{kind_name}
use Rattle.log_text.specs.Saved.{number_data, list_data}
use Rattle.log_text.proofs.GainedData.{gains_then}
use Rattle.log_text.proofs.replies.push_report.Goals as goal

pub returns : goal.returns
returns c =
    let start = c.args.items.now.items in
    let one = c.push_word.new.items.items in
    let two = c.push_each.new.items.items in
    let three = c.push_word-2.new.items.items in
    let end = c.push_numbers.new.items.items in
    let round = number_data c.args.round in
    let kind = string (kind_name c.args.kind) in
    let counts = list_data number_data c.args.counts.now in
    on_ok_weaker c.push_numbers.result
    (λ last. gains_then start one end (string (codes "report") ∷ []) (round ∷ kind ∷ counts ∷ []) c.in_ok-push_word.ensures (gains_then one two end (round ∷ []) (kind ∷ counts ∷ []) c.in_ok-push_each.ensures (gains_then two three end (kind ∷ []) (counts ∷ []) (rw c.kind_name.ensures at c.in_ok-push_word-2.ensures) last)))
    (rw c.as_slice.ensures at c.push_numbers.ensures)
