use Rattle.std.proofs.Common.{◌∙◌, ap, refl, reverse}
use Rattle.list_lemmas.proofs.Ends.{reverse_push}
use Rattle.refutation.specs.declared.above.Above.{Above}
use Rattle.refutation.proofs.PrunedTrees.{puts_step}
use Rattle.refutation.proofs.above.Above.put.Goals as goal

pub returns-clause-stands : goal.returns-clause-stands
returns-clause-stands c parts before =
    let old = c.args.self.now in
    let after : Above = record { tree = old.tree; used = c.add_arcs.new.self; steps = c.push.new.self } in
    let others = rw c.side_taken.ensures at c.remove.ensures.others in
    let notes = rw (c.side_not_taken.ensures, c.as_slice.ensures) at c.in_ok-add_arcs.ensures in
    puts_step parts before c.remove.new.self c.args.step old after refl (ap reverse c.in_ok-push.ensures.items ∙ reverse_push old.steps.items c.args.step) others notes
