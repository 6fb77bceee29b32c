use Rattle.std.proofs.Common.{ℕ, List, length, ap, arith}
use Rattle.clock_choices.proofs.UpTo.{goes_both, goes_none, next_below}
use Rattle.clock_choices.proofs.by_sources.add_ready.Goals as goal

pub loop-txn-init : goal.loop-txn-init
loop-txn-init c = goes_none c.args.parts.now c.args.graph.now c.requires.graph

pub is_next_ready-requires : goal.is_next_ready-requires
is_next_ready-requires c =
    let was = c.loop-txn.invariant in
    let width = was.up_to.width in
    let same = ap (λ (xs : List ℕ). length xs) was.gone in
    let session = c.requires.session in
    omega (arith, width, same, session)

pub add_next-requires : goal.add_next-requires
add_next-requires c =
    let was = c.loop-txn.invariant in
    let same = ap (λ (xs : List ℕ). length xs) was.gone in
    let session = c.requires.session in
    record {
      good = c.requires.good;
      index = c.requires.index;
      graph = was.up_to;
      session = omega (arith, same, session);
      next = next_below c.args.parts.now c.loop-txn.graph c.args.session c.loop-txn.ready c.is_next_ready.new.ready (c.is_next_ready.ensures c.if-not-is_next_ready.false);
    }

pub loop-txn-preserved : goal.loop-txn-preserved
loop-txn-preserved c = goes_both c.args.parts.now c.args.graph.now c.loop-txn.graph c.add_next.new.graph c.loop-txn.invariant c.in_ok-add_next.ensures.up
