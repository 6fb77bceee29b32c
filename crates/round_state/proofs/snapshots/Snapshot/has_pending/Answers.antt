use Rattle.std.proofs.Common.{◌∙◌, sym}
use Rattle.round_state.proofs.OpenSnapshots.{pending_in}
use Rattle.round_state.proofs.snapshots.Snapshot.has_pending.Goals as goal

pub returns-then-are_received_counts : goal.returns-then-are_received_counts
returns-then-are_received_counts c =
    let s = c.self.inside in
    let none = sym c.as_slice.ensures ∙ c.are_received_counts.ensures.0 c.if-are_received_counts.true in
    pending_in s.parts.now s.begun.now s.known.now.parts c.args.self.now s.waits.now c.any.result c.self.invariant.0 c.self.view_is none c.self.invariant.1 c.any.ensures
