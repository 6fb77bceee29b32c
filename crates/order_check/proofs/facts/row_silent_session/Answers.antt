use Rattle.std.proofs.Common.{◌≡◌, refl, subst, lit<, not, nat_eq, true}
use Rattle.std.proofs.lemmas.Bool.{false≢true}
use Rattle.order_check.specs.Settled.{IsPast}
use Rattle.order_check.specs.Rows.{id, fresh, silent_session}
use Rattle.order_check.proofs.EachRemaining.{each_remains}
use Rattle.order_check.proofs.facts.row_silent_session.Goals as goal

-- session 2 has nothing that remains
silent : ¬ IsPast (fresh silent_session) (id 0 1) 2
silent (i, session, remains, is) = false≢true (subst (λ s. not (nat_eq s 2) ≡ true) session (each_remains (λ j. not (nat_eq j.session 2)) (fresh silent_session) refl i remains))

pub returns : goal.returns
returns c settled = silent (settled.past 2 (lit< tt) (lit< tt, λ e. cc))
