use Rattle.std.proofs.Common.{refl}
use Rattle.round_state.proofs.Holding.{held_after}
use Rattle.round_state.proofs.reports.report_on.Goals as goal

pub returns-clause-ok : goal.returns-clause-ok
returns-clause-ok c = (
  record { number = refl; counts = c.in_ok-counts.ensures; right = c.in_ok-kind.ensures },
  held_after c.args.snapshot.now c.args.answer c.in_ok-kind.kind c.in_ok-kind.certificate c.args.held.now c.hold_found.new.held c.in_ok-kind.ensures c.in_ok-hold_found.ensures.ok,
)
