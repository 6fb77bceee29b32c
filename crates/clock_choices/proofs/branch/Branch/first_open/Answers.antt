use Rattle.std.proofs.Common.{[], List, subst, sym, Contains}
use Rattle.std.specs.Option.{MatchOption}
use Rattle.std.specs.Prelude.{◌↔◌}
use Rattle.txn.specs.declared.transactions.TxnId.{TxnId}
use Rattle.txn.specs.declared.choices.Choice.{Choice}
use Rattle.order_check.specs.Based.{Remains}
use Rattle.order_check.specs.Known.{IsOpen}
use Rattle.order_check.specs.Search.{IsFirstOpen}
use Rattle.clock_choices.specs.declared.indexing.Index.{Index}
use Rattle.clock_choices.specs.BranchState.{BranchState, assumed}
use Rattle.clock_choices.specs.Extending.{reached_in}
use Rattle.clock_choices.specs.Indexing.{AreInOrder, IsIndex}
use Rattle.clock_choices.specs.Opens.{ArePassed}
use Rattle.clock_choices.specs.Stacks.{stack_onto}
use Rattle.clock_choices.proofs.Seeing.{at_asked, first_at, seen_by_is}
use Rattle.clock_choices.proofs.Stacked.{stacked_here}
use Rattle.clock_choices.proofs.branch.Branch.first_open.Goals as goal

pub first_open_from-first-requires : goal.first_open_from-first-requires
first_open_from-first-requires c =
    let b = c.self.inside in
    let stack = stack_onto [] b.tops.items in
    let seen = seen_by_is b.parts b.ids.items b.log.items b.tops.items c.deref.result.now b.graph c.seen_by-known.result c.deref.ensures.value c.seen_by-known.ensures c.self.invariant.stacked in
    record {
      asked = at_asked b.parts b.log.items stack b.graph c.get-index.result.now c.self.invariant.good (subst (λ (index : Index). IsIndex b.parts index) (sym c.get-index.ensures) c.self.invariant.looked_up) (stacked_here b.parts b.ids.items b.log.items stack b.graph c.self.invariant.stacked);
      members = subst (λ (ids : List TxnId). (id : TxnId) → Contains ids id ↔ Remains b.parts id) (sym c.deref-2.ensures.value) c.self.invariant.members;
      rise = subst (λ (ids : List TxnId). AreInOrder ids) (sym c.deref-2.ensures.value) c.self.invariant.rise;
      passed = subst (λ (ids : List TxnId). ArePassed b.parts (reached_in b.graph) ids c.seen_by-known.result.passed) (sym c.deref-2.ensures.value) seen.passed;
    }

pub returns : goal.returns
returns c =
    let b = c.self.inside in
    let stack = stack_onto [] b.tops.items in
    let here = stacked_here b.parts b.ids.items b.log.items stack b.graph c.self.invariant.stacked in
    subst (λ (state : BranchState). MatchOption c.first_open_from-first.result.choice ((choice : Choice) → ¬ IsOpen state.parts (assumed state.levels) choice) (IsFirstOpen state.parts (assumed state.levels))) c.self.view_is
    (first_at b.parts b.log.items stack b.graph here c.first_open_from-first.result.choice c.first_open_from-first.ensures.choice)
