use Rattle.std.proofs.Common.{◌≡◌, ◌∙◌, ◌+◌, ◌++◌, ◌∷◌, [], Bool, List, Vec, Global, length, get_or, ap, sym, subst}
use Rattle.std.specs.Vec.{with_items}
use Rattle.std.proofs.lemmas.List.{with_items_is}
use Rattle.clock_choices.specs.Due.{AreListed}
use Rattle.clock_choices.proofs.DueLists.{listed_set}
use Rattle.clock_choices.proofs.due.Due.note.Goals as goal

pub invariant_of-self-2 : goal.invariant_of-self-2
invariant_of-self-2 c =
    let due = c.self.inside in
    let id = c.args.id in
    let number : get_or due.gone.items id.session 0 + c.in-Some.place ≡ id.number = rw c.deref.ensures.value at c.in-Some.ensures in
    let flags : (with_items due.flags c.set_flag.new.flags).items ≡ c.set_flag.new.flags = with_items_is due.flags c.set_flag.new.flags (c.set_flag.auto.flags ∙ ap length c.deref_mut.ensures.value ∙ sym due.flags.ok.0) in
    let only = rw (c.deref_mut.ensures.value, c.from-session.ensures) at c.set_flag.ensures in
    rw c.in_ok-push-2.ensures.items (subst (λ (shown : List (Vec Bool Global)). AreListed due.gone.items shown (due.ids.items ++ id ∷ [])) (sym flags)
    (listed_set due.gone.items due.flags.items c.set_flag.new.flags due.ids.items id c.in-Some.place number c.self.invariant only))
