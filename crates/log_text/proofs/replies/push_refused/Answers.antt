use Rattle.std.proofs.Common.{[], ◌∷◌, codes}
use Rattle.std.proofs.lemmas.Result.{on_ok_weaker}
use Rattle.serde_json.specs.Data.{string}
use Rattle.txn.specs.Refusals.{number_of, name_of}
use Rattle.log_text.specs.Saved.{number_data}
use Rattle.log_text.proofs.GainedData.{gains_then}
use Rattle.log_text.proofs.replies.push_refused.Goals as goal

pub returns : goal.returns
returns c =
    let start = c.args.items.now.items in
    let one = c.push_word.new.items.items in
    let two = c.push_each.new.items.items in
    let end = c.push_word-2.new.items.items in
    let number = number_data (number_of c.args.refusal) in
    let name = string (name_of c.args.refusal) in
    on_ok_weaker c.push_word-2.result
    (λ last. gains_then start one end (string (codes "no") ∷ []) (number ∷ name ∷ []) c.in_ok-push_word.ensures (gains_then one two end (number ∷ []) (name ∷ []) (rw (c.from.ensures, c.number.ensures) at c.in_ok-push_each.ensures) last))
    (rw c.name.ensures at c.push_word-2.ensures)
