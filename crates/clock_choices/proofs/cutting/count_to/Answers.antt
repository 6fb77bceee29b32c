use Rattle.std.proofs.Common.{arith}
use Rattle.txn.specs.declared.choices.Arc.{Arc}
use Rattle.txn.specs.declared.choices.Arc.TheVariants.{Session}
use Rattle.session_clocks.specs.Drops.{arc_stays}
use Rattle.clock_choices.proofs.LeftSteps.{count_within, counted_more_if}
use Rattle.clock_choices.proofs.cutting.count_to.Goals as goal

abbrev none : Arc
none = Session (record { session = 0; number = 0 }) (record { session = 0; number = 0 })

pub loop-place-init : goal.loop-place-init
loop-place-init c = let is = c.start_for-start.ensures.count c.args.left.now c.args.arcs.now c.requires.count in is.stay

pub one_more_if-stay-requires : goal.one_more_if-stay-requires
one_more_if-stay-requires c =
    let most = count_within (arc_stays c.args.left.now) c.args.arcs.now c.loop-place.place in
    omega (arith, most, c.loop-place.invariant, c.loop-place-test.true, c.requires.to)

pub loop-place-preserved : goal.loop-place-preserved
loop-place-preserved c = counted_more_if (arc_stays c.args.left.now) c.args.arcs.now c.loop-place.place none c.loop-place.stay c.one_more_if-stay.result c.arc_stays.result c.one_more_if-stay.ensures c.arc_stays.ensures c.loop-place.invariant (omega (arith, c.loop-place-test.true, c.requires.to))
