use Rattle.session_clocks.proofs.Widened.{IsWidened-push}
use Rattle.session_clocks.proofs.widths.widened.Goals as goal

pub loop-row-preserved : goal.loop-row-preserved
loop-row-preserved c = rw c.in_ok-push_wide.ensures
    (IsWidened-push c.args.numbers.now c.loop-row.wide.items c.row_in.result.now c.loop-row.row c.args.width c.args.number c.loop-row.invariant c.row_in.ensures.len c.row_in.ensures.numbers)
