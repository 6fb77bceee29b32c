use Rattle.std.proofs.Common.{◌∙◌, [], List, subst, sym, Contains}
use Rattle.std.specs.Prelude.{◌↔◌}
use Rattle.txn.specs.declared.transactions.TxnId.{TxnId}
use Rattle.txn.specs.Transactions.{Rises, id_below}
use Rattle.order_check.specs.Based.{Remains}
use Rattle.order_check.specs.Explains.{KeepsSessions}
use Rattle.order_check.specs.Known.{Known}
use Rattle.session_clocks.specs.Graphs.{HasNode}
use Rattle.clock_choices.specs.BranchState.{BranchState, assumed}
use Rattle.clock_choices.specs.Indexing.{AreInOrder}
use Rattle.clock_choices.specs.Ranks.{AreRanked, ids_of}
use Rattle.clock_choices.specs.Stacks.{stack_onto}
use Rattle.clock_choices.proofs.BranchIds.{sessions_kept, stacked_remain}
use Rattle.clock_choices.proofs.Ranked.{in_order_rises, ranked, remain_there}
use Rattle.clock_choices.proofs.Stacked.{stacked_here}
use Rattle.clock_choices.proofs.branch.Branch.ranks.Goals as goal

pub ranks_in-requires : goal.ranks_in-requires
ranks_in-requires c =
    let b = c.self.inside in
    let stack = stack_onto [] b.tops.items in
    let here = stacked_here b.parts b.ids.items b.log.items stack b.graph c.self.invariant.stacked in
    record {
      rise = subst (λ (ids : List TxnId). AreInOrder ids) (sym c.deref.ensures.value) c.self.invariant.rise;
      there = subst (λ (ids : List TxnId). (id : TxnId) → Contains ids id ↔ HasNode b.graph id) (sym c.deref.ensures.value) (remain_there b.parts b.log.items stack b.graph here b.ids.items c.self.invariant.members);
    }

pub returns-clause-sessions : goal.returns-clause-sessions
returns-clause-sessions c =
    let same = sym (c.in_ok-ranks.ensures.ids ∙ c.deref.ensures.value) in
    subst (λ (b : BranchState). KeepsSessions b.parts (ids_of c.in_ok-ranks.ranks.items)) c.self.view_is (subst (λ (ids : List TxnId). KeepsSessions c.self.inside.parts ids) same (sessions_kept c.self.inside.parts c.self.inside.ids.items c.self.invariant.rise c.self.invariant.members))

pub returns-clause-rise : goal.returns-clause-rise
returns-clause-rise c =
    let same = sym (c.in_ok-ranks.ensures.ids ∙ c.deref.ensures.value) in
    subst (λ (ids : List TxnId). Rises id_below ids) same (in_order_rises c.self.inside.ids.items c.self.invariant.rise)

pub returns-clause-members : goal.returns-clause-members
returns-clause-members c =
    let same = sym (c.in_ok-ranks.ensures.ids ∙ c.deref.ensures.value) in
    subst (λ (b : BranchState). (id : TxnId) → Contains (ids_of c.in_ok-ranks.ranks.items) id ↔ Remains b.parts id) c.self.view_is (subst (λ (ids : List TxnId). (id : TxnId) → Contains ids id ↔ Remains c.self.inside.parts id) same c.self.invariant.members)

pub returns-clause-known : goal.returns-clause-known
returns-clause-known c =
    let inside = c.self.inside in
    let same = sym (c.in_ok-ranks.ensures.ids ∙ c.deref.ensures.value) in
    subst (λ (b : BranchState). (x y : TxnId) → Known b.parts (assumed b.levels) x y → Contains (ids_of c.in_ok-ranks.ranks.items) x × Contains (ids_of c.in_ok-ranks.ranks.items) y) c.self.view_is
    (λ x y known.
    let both = stacked_remain inside.parts inside.ids.items inside.log.items (stack_onto [] inside.tops.items) inside.graph c.self.invariant.stacked x y known in
    subst (λ (ids : List TxnId). Contains ids x × Contains ids y) same ((c.self.invariant.members x).1 both.0, (c.self.invariant.members y).1 both.1))

pub returns-clause-counts : goal.returns-clause-counts
returns-clause-counts c =
    let b = c.self.inside in
    let stack = stack_onto [] b.tops.items in
    let here = stacked_here b.parts b.ids.items b.log.items stack b.graph c.self.invariant.stacked in
    subst (λ (state : BranchState). AreRanked state.parts (assumed state.levels) c.in_ok-ranks.ranks.items) c.self.view_is (ranked b.parts b.log.items stack b.graph here c.deref.result.now c.in_ok-ranks.ranks.items c.in_ok-ranks.ensures.ids c.in_ok-ranks.ensures.counts)
