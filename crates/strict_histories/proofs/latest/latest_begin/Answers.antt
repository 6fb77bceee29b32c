use Rattle.std.proofs.Common.{[], ap, arith, refl, sym, ◌∙◌}
use Rattle.std.proofs.lemmas.List.{get_or_default}
use Rattle.strict_histories.specs.Ends.{last_end}
use Rattle.strict_histories.specs.Rewriting.{last_before}
use Rattle.strict_histories.proofs.KnownEnds.{ends_are_as_many, last_of_session, rising_of_session}
use Rattle.strict_histories.proofs.LatestBegins.{latest_grown}
use Rattle.strict_histories.proofs.latest.latest_begin.Goals as goal

pub bounds-ends-session : goal.bounds-ends-session
bounds-ends-session c = omega (arith, ends_are_as_many c.args.timed.now c.args.ends.now c.requires, c.loop-session-test.true)

pub begin_before-began-requires-clause-rising : goal.begin_before-began-requires-clause-rising
begin_before-began-requires-clause-rising c = rising_of_session c.args.timed.now c.args.ends.now c.loop-session.session c.index-ends-session.result c.as_slice-in-loop-session.result.now c.requires c.loop-session-test.true c.index-ends-session.is c.as_slice-in-loop-session.ensures

pub begin_before-began-requires-clause-ends : goal.begin_before-began-requires-clause-ends
begin_before-began-requires-clause-ends c =
    let k = c.loop-session.session in
    let its_ends = c.as_slice-in-loop-session.result.now in
    last_of_session c.args.span c.args.timed.now c.args.ends.now k c.index-ends-session.result its_ends (last_end c.args.span.began its_ends) c.requires c.loop-session-test.true c.index-ends-session.is c.as_slice-in-loop-session.ensures refl
    ∙ ap (last_before c.args.span 0) (get_or_default c.args.timed.now k [] c.index-timed-session.result c.loop-session-test.true ∙ sym (c.as_slice.ensures ∙ c.index-timed-session.is))

pub loop-session-preserved : goal.loop-session-preserved
loop-session-preserved c = latest_grown c.args.span c.args.timed.now c.loop-session.session c.index-timed-session.result c.as_slice.result.now c.begin_before-began.result c.loop-session.latest _ c.loop-session-test.true c.index-timed-session.is c.as_slice.ensures c.begin_before-began.ensures c.loop-session.invariant c.later_time-latest.ensures
