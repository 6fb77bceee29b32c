use Rattle.std.proofs.Common.{◌≡◌, ◌∙◌, ◌<◌, length, sym, ap, subst, arith}
use Rattle.order_check.specs.declared.remainder.Parts.{Parts}
use Rattle.order_check.specs.StandsFor.{parts_with}
use Rattle.round_state.specs.Joining.{parts_more}
use Rattle.round_state.specs.Steps.{IsAdmitted}
use Rattle.round_state.proofs.LetIn.{admitted_more, joined_same, tracked_less, tracked_more}
use Rattle.round_state.proofs.joining.join_anew.Goals as goal

pub take_in-requires-clause-tracked : goal.take_in-requires-clause-tracked
take_in-requires-clause-tracked c =
    let parts : Parts = c.args.parts.now in
    let few : length parts.remain < parts.most_sessions = omega (arith, c.requires.new, c.requires.fits.well_formed.session) in
    tracked_more parts c.add_session.new.parts c.args.marks.now c.add_session.new.marks c.args.waits.now c.in_ok-add_session.ensures.ok.0 c.in_ok-add_session.ensures.ok.1 few c.requires.tracked

pub take_in-requires-clause-fits : goal.take_in-requires-clause-fits
take_in-requires-clause-fits c =
    subst (λ (parts : Parts). IsAdmitted parts c.args.fragment) (sym c.in_ok-add_session.ensures.ok.0) (admitted_more c.args.parts.now c.args.fragment c.requires.tracked.good c.requires.fits c.requires.new)

pub returns-in-Err-clause-tracked : goal.returns-in-Err-clause-tracked
returns-in-Err-clause-tracked c =
    let parts : Parts = c.args.parts.now in
    let mid : c.take_in.new.parts ≡ parts_more parts = c.in-Err.ensures.err ∙ c.in_ok-add_session.ensures.ok.0 in
    tracked_less parts c.take_in.new.parts c.take_session.new.parts c.take_in.new.marks c.take_session.new.marks c.take_in.new.waits mid (c.take_session.ensures.parts parts mid) c.take_session.ensures.marks c.requires.tracked.good c.take_in.ensures.tracked

pub returns-in-Err-clause-err : goal.returns-in-Err-clause-err
returns-in-Err-clause-err c = c.take_session.ensures.parts c.args.parts.now (c.in-Err.ensures.err ∙ c.in_ok-add_session.ensures.ok.0)

pub returns-clause-ok : goal.returns-clause-ok
returns-clause-ok c =
    c.in_default.ensures.ok ∙ ap (λ (parts : Parts). parts_with parts c.args.fragment) c.in_ok-add_session.ensures.ok.0 ∙ joined_same c.args.parts.now c.args.fragment c.requires.new
