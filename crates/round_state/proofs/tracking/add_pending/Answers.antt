use Rattle.std.proofs.Common.{◌≡◌, ◌∙◌, ap}
use Rattle.order_check.specs.Based.{mark_of, remaining_of}
use Rattle.round_state.specs.Awaiting.{awaited_from}
use Rattle.round_state.proofs.Anew.{new_below, below_more}
use Rattle.round_state.proofs.tracking.add_pending.Goals as goal

pub add_all-requires : goal.add_all-requires
add_all-requires c =
    let s = c.args.session in
    let marks = c.args.marks.now in
    let parts = c.args.parts.now in
    let awaited : c.as_slice.result.now ≡ awaited_from marks s (mark_of parts s) (remaining_of parts s) =
    c.as_slice.ensures.value ∙ c.in_ok-awaited.ensures ∙ ap (λ first. awaited_from marks s first c.remaining_of.result.now) c.mark_of-mark.ensures ∙ ap (awaited_from marks s (mark_of parts s)) c.remaining_of.ensures in
    new_below marks parts c.args.waits.now s c.as_slice.result.now c.requires.good awaited c.requires.before

pub returns : goal.returns
returns c =
    let s = c.args.session in
    let marks = c.args.marks.now in
    let parts = c.args.parts.now in
    let awaited : c.as_slice.result.now ≡ awaited_from marks s (mark_of parts s) (remaining_of parts s) =
    c.as_slice.ensures.value ∙ c.in_ok-awaited.ensures ∙ ap (λ first. awaited_from marks s first c.remaining_of.result.now) c.mark_of-mark.ensures ∙ ap (awaited_from marks s (mark_of parts s)) c.remaining_of.ensures in
    below_more marks parts c.args.waits.now c.add_all.new.self s c.as_slice.result.now c.requires.marks awaited c.requires.before c.in_ok-add_all.ensures.ok.1
