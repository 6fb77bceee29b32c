use Rattle.std.proofs.Common.{[], ◌∷◌, codes}
use Rattle.std.proofs.lemmas.Result.{on_ok_weaker}
use Rattle.serde_json.specs.Data.{boolean, string}
use Rattle.log_text.specs.Saved.{number_data, list_data, writer_data}
use Rattle.log_text.proofs.GainedData.{gains_then}
use Rattle.log_text.proofs.replies.push_shown.Goals as goal

pub returns : goal.returns
returns c =
    let start = c.args.items.now.items in
    let one = c.push_word.new.items.items in
    let two = c.push_numbers.new.items.items in
    let three = c.push_numbers-2.new.items.items in
    let four = c.push_flags.new.items.items in
    let five = c.push_writers.new.items.items in
    let end = c.push_each.new.items.items in
    let marks = list_data number_data c.args.marks.now in
    let received = list_data number_data c.args.received.now in
    let closed = list_data boolean c.args.closed.now in
    let writers = list_data writer_data c.args.last.now in
    let remaining = number_data c.args.remaining in
    on_ok_weaker c.push_each.result
    (λ last. gains_then start one end (string (codes "show") ∷ []) (marks ∷ received ∷ closed ∷ writers ∷ remaining ∷ []) c.in_ok-push_word.ensures
    (gains_then one two end (marks ∷ []) (received ∷ closed ∷ writers ∷ remaining ∷ []) (rw c.as_slice.ensures at c.in_ok-push_numbers.ensures)
    (gains_then two three end (received ∷ []) (closed ∷ writers ∷ remaining ∷ []) (rw c.as_slice-2.ensures at c.in_ok-push_numbers-2.ensures)
    (gains_then three four end (closed ∷ []) (writers ∷ remaining ∷ []) (rw c.as_slice-3.ensures at c.in_ok-push_flags.ensures)
    (gains_then four five end (writers ∷ []) (remaining ∷ []) (rw c.as_slice-4.ensures at c.in_ok-push_writers.ensures) last))))) c.push_each.ensures
