use Rattle.std.proofs.Common.{◌∙◌, ◌++◌, ◌∷◌, [], List, ap, append_assoc}
use Rattle.txn.specs.declared.choices.Arc.{Arc}
use Rattle.txn.specs.declared.choices.Arc.TheVariants.{Session}
use Rattle.clock_choices.proofs.RightArcs.{looked_up_more}
use Rattle.clock_choices.proofs.cycles.push_right_arcs.Goals as goal

abbrev none : Arc
none = Session (record { session = 0; number = 0 }) (record { session = 0; number = 0 })

pub loop-arc-preserved : goal.loop-arc-preserved
loop-arc-preserved c =
    let (more, is, are) = c.loop-arc.invariant in
    let one : Arc = c.right_arc.result in
    let right = rw (c.start.ensures, c.end.ensures) at c.right_arc.ensures in (
      more ++ one ∷ [],
      c.in_ok-push.ensures.items ∙ ap (λ (xs : List Arc). xs ++ one ∷ []) is ∙ append_assoc c.args.found.now.items more (one ∷ []),
      looked_up_more c.args.parts.now c.args.path.now more c.loop-arc.arc-index none one c.loop-arc-test.true right are,
    )
