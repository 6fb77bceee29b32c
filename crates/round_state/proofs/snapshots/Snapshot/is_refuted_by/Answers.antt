use Rattle.std.proofs.Common.{sym, subst}
use Rattle.std.proofs.lemmas.Result.{IfOk-weaker}
use Rattle.order_check.specs.CountedFronts.{AreFrontCounts}
use Rattle.round_state.proofs.OpenSnapshots.{refuted_in}
use Rattle.round_state.proofs.snapshots.Snapshot.is_refuted_by.Goals as goal

pub check_front-requires-clause-counts : goal.check_front-requires-clause-counts
check_front-requires-clause-counts c = subst (AreFrontCounts c.self.inside.parts.now) (sym c.as_slice.ensures) c.self.invariant.0.counts

pub returns : goal.returns
returns c =
    let s = c.self.inside in
    IfOk-weaker c.check_front.result _ _
    (λ found is. refuted_in s.parts.now s.begun.now s.known.now.parts c.args.self.now c.as_slice.result.now c.args.tree.now found c.self.invariant.0 c.self.view_is c.as_slice.ensures is)
    c.check_front.ensures
