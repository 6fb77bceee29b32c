use Rattle.std.proofs.Common.{[], subst}
use Rattle.std.specs.Prelude.{◌↔◌, Contains}
use Rattle.txn.specs.declared.transactions.TxnId.{TxnId}
use Rattle.order_check.specs.Based.{Remains}
use Rattle.order_check.specs.Known.{Known}
use Rattle.clock_choices.specs.SaturatedState.{SaturatedState}
use Rattle.clock_choices.proofs.CaughtUp.{known_remain}
use Rattle.clock_choices.proofs.saturated.Saturated.ids.Goals as goal

pub returns-clause-rise : goal.returns-clause-rise
returns-clause-rise c = c.in_ok-ids.ensures.rise

pub returns-clause-members : goal.returns-clause-members
returns-clause-members c = subst (λ (s : SaturatedState). (id : TxnId) → Contains c.in_ok-ids.ids.items id ↔ Remains s.parts id) c.self.view_is c.in_ok-ids.ensures.members

pub returns-clause-known : goal.returns-clause-known
returns-clause-known c =
    let parts = c.self.inside.parts in
    let members : (id : TxnId) → Contains c.in_ok-ids.ids.items id ↔ Remains parts id = c.in_ok-ids.ensures.members in
    subst (λ (s : SaturatedState). (a b : TxnId) → Known s.parts [] a b → Contains c.in_ok-ids.ids.items a × Contains c.in_ok-ids.ids.items b) c.self.view_is
    (λ a b known. let both = known_remain parts a b known in ((members a).1 both.0, (members b).1 both.1))
