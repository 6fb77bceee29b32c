use Rattle.std.proofs.Common.{subst}
use Rattle.std.specs.Prelude.{IsTrue, ◌↔◌}
use Rattle.pending_reads.specs.Waiting.{HasWaitingIn}
use Rattle.pending_reads.proofs.Changes.{waiting_in}
use Rattle.pending_reads.proofs.index.PendingReads.any_in.Goals as goal

pub returns : goal.returns
returns c =
    let answer = c.has_list_with.ensures.answer in
    let waiting = waiting_in c.self.inside.awaited.entries c.args.readers.now c.has_list_with.ensures.found in
    subst (λ index. IsTrue c.has_list_with.result ↔ HasWaitingIn index c.args.readers.now) c.self.view_is (λ some. waiting.0 (answer.0 some), λ has. answer.1 (waiting.1 has))
