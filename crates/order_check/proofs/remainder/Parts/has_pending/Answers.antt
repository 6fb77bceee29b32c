use Rattle.std.proofs.Common.{◌↔◌, IsTrue, Any, rules}
use Rattle.order_check.specs.Waiting.{SomeWaits}
use Rattle.order_check.proofs.PendingReads.{pending_from_waits, waits_from_pending}
use Rattle.order_check.proofs.remainder.Parts.has_pending.Goals as goal

pub returns : goal.returns
returns c =
    let parts = c.args.self.now in
    let tells : IsTrue c.any.result ↔ Any (SomeWaits parts) parts.remain = search rules in
    (λ yes. pending_from_waits parts (tells.0 yes), λ pending. tells.1 (waits_from_pending parts pending))
