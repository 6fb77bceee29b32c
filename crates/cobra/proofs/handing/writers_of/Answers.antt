use Rattle.std.proofs.Common.{sym, ◌∙◌, arith}
use Rattle.cobra.proofs.HandedWriters.{keys_before, writers_before, there_twice, not_there}
use Rattle.cobra.proofs.handing.writers_of.Goals as goal

pub returns-then-is_some : goal.returns-then-is_some
returns-then-is_some c =
    there_twice c.args.entries.now c.loop-left.left _ c.loop-left.last c.get.result c.is_some.result c.get.ensures c.is_some.ensures c.if-is_some.true (omega (arith, c.loop-left-test.true)) c.loop-left.invariant.within c.loop-left.invariant.map_is

pub loop-left-preserved : goal.loop-left-preserved
loop-left-preserved c =
    let none = not_there c.get.result c.is_some.result c.is_some.ensures c.if-is_some.false in
    record {
      within = omega (arith, c.loop-left.invariant.within);
      keys = keys_before c.args.entries.now c.loop-left.left _ c.loop-left.last (omega (arith, c.loop-left-test.true)) c.loop-left.invariant.within c.loop-left.invariant.map_is c.loop-left.invariant.keys (sym c.get.ensures ∙ none);
      map_is = c.in_ok-insert.ensures.ok ∙ writers_before c.args.entries.now c.loop-left.left _ c.loop-left.last (omega (arith, c.loop-left-test.true)) c.loop-left.invariant.within c.loop-left.invariant.map_is;
    }
