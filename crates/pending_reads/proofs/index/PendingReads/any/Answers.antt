use Rattle.std.proofs.Common.{subst}
use Rattle.std.specs.Prelude.{IsTrue, ◌↔◌, not}
use Rattle.pending_reads.specs.Waiting.{HasWaiting}
use Rattle.pending_reads.proofs.Changes.{empty_or_waits}
use Rattle.pending_reads.proofs.index.PendingReads.any.Goals as goal

pub returns : goal.returns
returns c = subst (λ index. IsTrue (not c.is_empty.result) ↔ HasWaiting index) c.self.view_is (empty_or_waits c.is_empty.result c.self.inside.awaited.entries c.self.invariant c.is_empty.ensures)
