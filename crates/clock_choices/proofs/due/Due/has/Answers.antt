use Rattle.std.proofs.Common.{◌≡◌, ◌∙◌, ◌+◌, List, get_or, sym, subst, Contains}
use Rattle.txn.specs.declared.transactions.TxnId.{TxnId}
use Rattle.clock_choices.proofs.DueLists.{listed_has}
use Rattle.clock_choices.proofs.due.Due.has.Goals as goal

pub returns-in-Some : goal.returns-in-Some
returns-in-Some c = λ is.
    let due = c.self.inside in
    let id = c.args.id in
    let number : get_or due.gone.items id.session 0 + c.in-Some.place ≡ id.number = rw c.deref.ensures.value at c.in-Some.ensures in
    let flag = rw (c.deref-in-Some.ensures.value, c.from.ensures) at c.flag_of.ensures in
    subst (λ (ids : List TxnId). Contains ids id) c.self.view_is (listed_has due.gone.items due.flags.items due.ids.items id c.in-Some.place number c.self.invariant (sym flag ∙ is))
