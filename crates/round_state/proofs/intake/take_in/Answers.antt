use Rattle.std.proofs.Common.{◌≡◌, ◌∙◌, refl, sym, ap, subst}
use Rattle.txn.proofs.Sessions.{cut_back_to}
use Rattle.order_check.specs.declared.remainder.Parts.{Parts}
use Rattle.order_check.specs.StandsFor.{with_fragment}
use Rattle.pending_reads.specs.Waiting.{AreNew}
use Rattle.round_state.specs.Awaiting.{awaited_from}
use Rattle.round_state.proofs.Indexed.{awaited_new}
use Rattle.round_state.proofs.TakenIn.{parts_along, tracked_along, tracked_index, tracked_with}
use Rattle.round_state.proofs.intake.take_in.Goals as goal

pub returns-in_err-append_at-clause-tracked : goal.returns-in_err-append_at-clause-tracked
returns-in_err-append_at-clause-tracked c = tracked_along c.args.parts.now c.args.marks.now c.args.waits.now c.append_at.new.self c.in_err-append_at.ensures.err c.requires.tracked

pub add_all-requires : goal.add_all-requires
add_all-requires c =
    let f = c.args.fragment in
    let awaited : c.as_slice.result.now ≡ awaited_from c.args.marks.now f.session f.first f.txns = c.as_slice.ensures.value ∙ c.in_ok-awaited.ensures ∙ ap (awaited_from c.args.marks.now f.session f.first) c.as_slice-txns.ensures in
    subst (λ reads. AreNew c.args.waits.now reads) (sym awaited) (awaited_new c.args.marks.now c.args.parts.now c.args.waits.now f c.requires.tracked.waits_fit c.requires.fits)

pub returns-in-Err-clause-tracked : goal.returns-in-Err-clause-tracked
returns-in-Err-clause-tracked c =
    let parts : Parts = c.args.parts.now in
    let back = cut_back_to parts.remain c.append_at.new.self c.truncate_at.new.self c.from-place.result c.args.fragment.session _ c.args.fragment.txns c.remaining_of-before.result.now c.from-place.ensures c.requires.fits.next.session.0 c.remaining_of-before.ensures refl c.in_ok-append_at.ensures.ok c.truncate_at.ensures in
    tracked_along parts c.args.marks.now c.add_all.new.self c.truncate_at.new.self back (tracked_index parts c.args.marks.now c.args.waits.now c.add_all.new.self c.in-Err.ensures.err c.requires.tracked)

pub returns-in-Err-clause-err : goal.returns-in-Err-clause-err
returns-in-Err-clause-err c =
    let parts : Parts = c.args.parts.now in
    let back = cut_back_to parts.remain c.append_at.new.self c.truncate_at.new.self c.from-place.result c.args.fragment.session _ c.args.fragment.txns c.remaining_of-before.result.now c.from-place.ensures c.requires.fits.next.session.0 c.remaining_of-before.ensures refl c.in_ok-append_at.ensures.ok c.truncate_at.ensures in
    parts_along parts c.truncate_at.new.self back

pub returns-clause-tracked : goal.returns-clause-tracked
returns-clause-tracked c =
    let f = c.args.fragment in
    let parts : Parts = c.args.parts.now in
    let grown : c.append_at.new.self ≡ with_fragment parts.remain f = cc (c.in_ok-append_at.ensures.ok, c.from-place.ensures) in
    tracked_with parts c.args.marks.now c.receive.new.self c.args.waits.now c.add_all.new.self c.arrive_all.new.waits c.len-count.result f c.append_at.new.self c.as_slice.result.now
    grown c.receive.ensures c.len-count.ensures (c.as_slice.ensures.value ∙ c.in_ok-awaited.ensures ∙ ap (awaited_from c.args.marks.now f.session f.first) c.as_slice-txns.ensures) c.requires.tracked c.requires.fits c.in_default.ensures.ok.1 c.arrive_all.ensures
