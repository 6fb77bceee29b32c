use Rattle.std.proofs.Common.{subst, arith}
use Rattle.std.proofs.lemmas.List.{take_all}
use Rattle.refutation.proofs.UsedArcs.{Notes, turn_noted}
use Rattle.refutation.proofs.used.UsedSides.add_arcs.Goals as goal

pub loop-arc-preserved : goal.loop-arc-preserved
loop-arc-preserved c = turn_noted c.args.self.now c.loop-arc.self c.add_arc.new.self c.args.arcs.now c.loop-arc.arc-index _ c.args.skipped (omega (arith, c.loop-arc-test.true)) c.loop-arc.invariant c.in_ok-add_arc.ensures

pub returns : goal.returns
returns c = subst (λ arcs. Notes c.args.self.now c.loop-arc.self arcs c.args.skipped) (take_all c.loop-arc.arc-index c.args.arcs.now (omega (arith, c.loop-arc-test.false))) c.loop-arc.invariant
