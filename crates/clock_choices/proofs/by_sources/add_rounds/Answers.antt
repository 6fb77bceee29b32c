use Rattle.std.proofs.Common.{◌∙◌, refl}
use Rattle.clock_choices.proofs.UpTo.{goes_both, goes_none}
use Rattle.clock_choices.proofs.by_sources.add_rounds.Goals as goal

pub loop-round-init : goal.loop-round-init
loop-round-init c = record { up = goes_none c.args.parts.now c.args.graph.now c.requires.graph; ready = refl }

pub add_round-requires : goal.add_round-requires
add_round-requires c =
    let was = c.loop-round.invariant in
    let up = was.up in
    record { good = c.requires.good; index = c.requires.index; graph = up.up_to; ready = was.ready ∙ c.requires.ready }

pub loop-round-preserved : goal.loop-round-preserved
loop-round-preserved c =
    let was = c.loop-round.invariant in
    record { up = goes_both c.args.parts.now c.args.graph.now c.loop-round.graph c.add_round.new.graph was.up c.in_ok-add_round.ensures.up; ready = c.add_round.ensures.ready ∙ was.ready }
