use Rattle.std.proofs.Common.{subst}
use Rattle.order_check.specs.declared.remainder.Parts.{Parts}
use Rattle.order_check.specs.Good.{IsGood}
use Rattle.settle.proofs.finding.has_no_cycle.Goals as goal

pub returns : goal.returns
returns c =
    let good = subst (λ (p : Parts). IsGood p) c.parts.ensures.value c.parts.ensures.good in
    λ id known. c.cycle_leaves_no_order.ensures c.args.known.now.parts c.args.order.now id good.base known c.requires
