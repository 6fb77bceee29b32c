use Rattle.std.proofs.Common.{◌≡◌, ◌+◌, ◌-◌, ◌/◌, ◌<◌, ◌≤◌, ◌∙◌, true, arith, sym}
use Rattle.std.proofs.lemmas.Bool.{false≢true}
use Rattle.fence_chain.proofs.Chained.{to_back, to_front}
use Rattle.fence_chain.proofs.chaining.half_of.Goals as goal

pub returns-then-reaches-clause-between : goal.returns-then-reaches-clause-between
returns-then-reaches-clause-between c =
    let low = c.args.low in
    let high = c.args.high in
    let some = c.requires.some in
    let above : low ≤ low + (high - low) / 2 = omega arith in
    let below : low + (high - low) / 2 < high = omega arith in
    to_front c.args.known.now.parts c.args.fence c.args.chain.now low high (low + (high - low) / 2) _ c.requires.chained c.requires.between above below (c.reaches.ensures.0 c.if-reaches.true)

pub returns-clause-between : goal.returns-clause-between
returns-clause-between c =
    let low = c.args.low in
    let high = c.args.high in
    let some = c.requires.some in
    let below : low + (high - low) / 2 < high = omega arith in
    to_back c.args.known.now.parts c.args.fence c.args.chain.now low high (low + (high - low) / 2) _ c.requires.chained c.requires.ordered c.requires.between below (λ h. let t : c.reaches.result ≡ true = c.reaches.ensures.1 h in false≢true (sym c.if-reaches.false ∙ t))
