use Rattle.std.proofs.lemmas.Result.{on_ok_weaker}
use Rattle.log_text.proofs.GainedData.{gains_then}
use Rattle.log_text.proofs.replies.push_parts.Goals as goal

pub returns-in_ok-push_report-in-Order : goal.returns-in_ok-push_report-in-Order
returns-in_ok-push_report-in-Order c =
    rw c.in-Order.is (on_ok_weaker c.push_all_named.result (λ last. gains_then _ _ _ _ _ c.in_ok-push_report-in-Order.ensures last) (rw c.as_slice.ensures at c.push_all_named.ensures))

pub returns-in_ok-push_report-in-Violated : goal.returns-in_ok-push_report-in-Violated
returns-in_ok-push_report-in-Violated c =
    rw c.in-Violated.is (on_ok_weaker c.push_tree.result (λ last. gains_then _ _ _ _ _ c.in_ok-push_report-in-Violated.ensures last) c.push_tree.ensures)

pub returns-in-Searching : goal.returns-in-Searching
returns-in-Searching c = rw c.in-Searching.is c.push_word-in-Searching.ensures
