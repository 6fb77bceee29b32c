use Rattle.std.proofs.Common.{◌∙◌, [], List, subst, sym}
use Rattle.std.specs.Prelude.{Contains}
use Rattle.txn.specs.declared.transactions.TxnId.{TxnId}
use Rattle.order_check.specs.Based.{Remains}
use Rattle.order_check.specs.Explains.{KeepsSessions}
use Rattle.order_check.specs.Known.{Known}
use Rattle.clock_choices.specs.BranchState.{BranchState, assumed}
use Rattle.clock_choices.specs.Stacks.{stack_onto}
use Rattle.clock_choices.proofs.BranchIds.{sessions_kept, stacked_remain}
use Rattle.clock_choices.proofs.branch.Branch.ids.Goals as goal

pub returns-clause-sessions : goal.returns-clause-sessions
returns-clause-sessions c = subst (λ (ids : List TxnId). KeepsSessions c.args.self.now.parts ids) (sym (c.in_ok-ids.ensures.items ∙ c.deref.ensures.value)) (subst (λ (b : BranchState). KeepsSessions b.parts c.self.inside.ids.items) c.self.view_is (sessions_kept c.self.inside.parts c.self.inside.ids.items c.self.invariant.rise c.self.invariant.members))

pub returns-clause-members : goal.returns-clause-members
returns-clause-members c =
    subst (λ (ids : List TxnId). (id : TxnId) → Remains c.args.self.now.parts id → Contains ids id) (sym (c.in_ok-ids.ensures.items ∙ c.deref.ensures.value)) (subst (λ (b : BranchState). (id : TxnId) → Remains b.parts id → Contains c.self.inside.ids.items id) c.self.view_is (λ id remains. (c.self.invariant.members id).1 remains))

pub returns-clause-known : goal.returns-clause-known
returns-clause-known c =
    subst (λ (ids : List TxnId). (x y : TxnId) → Known c.args.self.now.parts (assumed c.args.self.now.levels) x y → Contains ids x × Contains ids y) (sym (c.in_ok-ids.ensures.items ∙ c.deref.ensures.value)) (subst (λ (b : BranchState). (x y : TxnId) → Known b.parts (assumed b.levels) x y → Contains c.self.inside.ids.items x × Contains c.self.inside.ids.items y) c.self.view_is
    (λ x y known. let both = stacked_remain c.self.inside.parts c.self.inside.ids.items c.self.inside.log.items (stack_onto [] c.self.inside.tops.items) c.self.inside.graph c.self.invariant.stacked x y known in ((c.self.invariant.members x).1 both.0, (c.self.invariant.members y).1 both.1)))
