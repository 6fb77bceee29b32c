use Rattle.std.proofs.Common.{◌≡◌, subst₂}
use Rattle.order_check.specs.Cuts.{IsCutOff}
use Rattle.order_check.specs.Settled.{IsCutOf}
use Rattle.relation_tests.proofs.cuts.cut_past.Goals as goal

-- The fence stays settled in the front.
pub returns-clause-cut_off : goal.returns-clause-cut_off
returns-clause-cut_off c =
    let front = c.args.front.now in
    let cut = c.args.cut.now in
    let kept = c.requires.kept in
    record {
      front = front;
      last = cut.last;
      behind = record {
        fence = cut.fence;
        is_front = kept.is_front;
        settled = (c.settled_stays_settled.ensures front c.args.parts.now cut.fence kept c.requires.found.0.settled).so_far;
        cut = c.requires.found.1;
        leaves = subst₂ (λ old gone. IsCutOf old c.apply.new.parts gone cut.last) c.in_ok-left.ensures.cases c.as_slice.ensures c.in_ok-apply.ensures.ok;
      };
    }
