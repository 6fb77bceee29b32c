use Rattle.std.proofs.Common.{ap, sym, ◌∙◌}
use Rattle.strict_histories.specs.Ends.{or_last}
use Rattle.strict_histories.specs.Rewriting.{ended_before}
use Rattle.strict_histories.proofs.Steps.{last_next}
use Rattle.strict_histories.proofs.ends.ends_of.Goals as goal

pub loop-place-preserved : goal.loop-place-preserved
loop-place-preserved c =
    let txn = c.index-txns-place.result in
    record {
      rising = c.in_ok-note_end.ensures.rising;
      same = λ span. c.in_ok-note_end.ensures.same span.began ∙ ap (or_last (ended_before txn.span span) c.loop-place.place) (c.loop-place.invariant.same span) ∙ sym (last_next span c.args.txns.now c.loop-place.place txn c.loop-place-test.true c.index-txns-place.is);
    }
