use Rattle.std.proofs.Common.{◌≡◌, ◌∙◌, ◌++◌, ◌∷◌, [], ℕ, List, sym, ap, append-nil, append_assoc, get_or, take, ◌+◌}
use Rattle.std.specs.Option.{option_to_list}
use Rattle.txn.specs.declared.transactions.Source.{Source}
use Rattle.pending_reads.specs.declared.index.PendingRead.{PendingRead}
use Rattle.round_state.specs.Awaiting.{awaited_of}
use Rattle.round_state.proofs.Awaited.{awaited_more, no_read}
use Rattle.round_state.proofs.intake.push_awaited.Goals as goal
use Rattle.round_state.proofs.intake.push_awaited.Goals.{in-Some+in_ok-push, in_default}

pub loop-place-preserved : goal.loop-place-preserved
loop-place-preserved c =
    let reads : List (ℕ × Source) = c.as_slice-reads.result.now in
    let before : List PendingRead = c.args.awaited.now.items in
    let front = awaited_of c.args.marks.now c.args.reader (take c.loop-place.place reads) in
    let one : List PendingRead = awaited_of c.args.marks.now c.args.reader (get_or reads c.loop-place.place no_read ∷ []) in
    let more = awaited_more c.args.marks.now c.args.reader reads c.loop-place.place no_read c.loop-place-test.true in
    let whole : (before ++ front) ++ one ≡ before ++ awaited_of c.args.marks.now c.args.reader (take (c.loop-place.place + 1) reads) = append_assoc before front one ∙ ap (λ list. before ++ list) (sym more) in
    let grown : c.match-awaited_read.awaited.items ≡ c.loop-place.awaited.items ++ one = elim c.match-awaited_read.branch [
      | in-Some+in_ok-push w ↦ ap (λ (v : _). v.items) w.awaited-is ∙ w.in_ok-push.ensures.items ∙ ap (λ list. c.loop-place.awaited.items ++ list) (ap option_to_list (sym w.in-Some.is) ∙ c.awaited_read.ensures)
      | in_default w ↦ ap (λ (v : _). v.items) w.awaited-is ∙ sym (append-nil c.loop-place.awaited.items) ∙ ap (λ list. c.loop-place.awaited.items ++ list) (ap option_to_list (sym w.in_default.is) ∙ c.awaited_read.ensures)
    ] in
    grown ∙ ap (λ list. list ++ one) c.loop-place.invariant ∙ whole
