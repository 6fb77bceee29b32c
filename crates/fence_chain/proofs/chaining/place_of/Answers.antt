use Rattle.std.proofs.Common.{◌≡◌, ℕ, arith, subst}
use Rattle.fence_chain.specs.Picked.{IsBetween}
use Rattle.fence_chain.proofs.Chained.{whole_between}
use Rattle.fence_chain.proofs.chaining.place_of.Goals as goal

pub loop-low-init : goal.loop-low-init
loop-low-init c = whole_between c.args.known.now.parts c.args.fence c.args.chain.now

pub returns : goal.returns
returns c =
    let between = c.loop-low.invariant in
    let rise = between.rise in
    let past = c.loop-low-test.false in
    let same : c.loop-low.high ≡ c.loop-low.low = omega arith in
    subst (λ (n : ℕ). IsBetween c.args.known.now.parts c.args.fence c.args.chain.now c.loop-low.low n) same between
