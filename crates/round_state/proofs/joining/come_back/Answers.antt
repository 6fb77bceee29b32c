use Rattle.std.proofs.Common.{◌∙◌, ◌<◌, false, true, length, sym, ap, subst}
use Rattle.order_check.specs.declared.remainder.Parts.{Parts}
use Rattle.order_check.specs.StandsFor.{parts_with}
use Rattle.round_state.specs.Steps.{IsAdmitted}
use Rattle.round_state.proofs.LetIn.{admitted_reopened, parts_again, tracked_flagged}
use Rattle.round_state.proofs.joining.come_back.Goals as goal

pub take_in-requires-clause-tracked : goal.take_in-requires-clause-tracked
take_in-requires-clause-tracked c =
    tracked_flagged c.args.parts.now c.set_closed.new.parts c.args.marks.now c.set_closed.new.marks c.args.waits.now c.args.fragment.session false c.set_closed.ensures.parts c.set_closed.ensures.marks c.requires.closed.0 c.requires.tracked

pub take_in-requires-clause-fits : goal.take_in-requires-clause-fits
take_in-requires-clause-fits c =
    subst (λ (parts : Parts). IsAdmitted parts c.args.fragment) (sym c.set_closed.ensures.parts) (admitted_reopened c.args.parts.now c.args.fragment c.requires.fits c.requires.closed)

pub returns-in-Err-clause-tracked : goal.returns-in-Err-clause-tracked
returns-in-Err-clause-tracked c =
    let within : c.args.fragment.session < length c.take_in.new.parts.remain = subst (λ (parts : Parts). c.args.fragment.session < length parts.remain) (sym (c.in-Err.ensures.err ∙ c.set_closed.ensures.parts)) c.requires.closed.0 in
    tracked_flagged c.take_in.new.parts c.set_closed-in-Err.new.parts c.take_in.new.marks c.set_closed-in-Err.new.marks c.take_in.new.waits c.args.fragment.session true c.set_closed-in-Err.ensures.parts c.set_closed-in-Err.ensures.marks within c.take_in.ensures.tracked

pub returns-in-Err-clause-err : goal.returns-in-Err-clause-err
returns-in-Err-clause-err c =
    parts_again c.args.parts.now c.set_closed.new.parts c.take_in.new.parts c.set_closed-in-Err.new.parts c.args.fragment.session c.set_closed.ensures.parts c.in-Err.ensures.err c.set_closed-in-Err.ensures.parts c.requires.closed.1

pub returns-clause-ok : goal.returns-clause-ok
returns-clause-ok c = c.in_default.ensures.ok ∙ ap (λ (parts : Parts). parts_with parts c.args.fragment) c.set_closed.ensures.parts
