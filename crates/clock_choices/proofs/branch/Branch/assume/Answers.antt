use Rattle.std.proofs.Common.{◌≡◌, ◌∷◌, [], ◌∙◌, List, map, sym, ap, subst, Contains}
use Rattle.std.specs.Prelude.{◌↔◌}
use Rattle.txn.specs.declared.transactions.TxnId.{TxnId}
use Rattle.order_check.specs.Based.{Remains}
use Rattle.order_check.specs.Cycles.{AreNew}
use Rattle.order_check.specs.Known.{IsChoice}
use Rattle.session_clocks.specs.Graphs.{GraphState}
use Rattle.clock_choices.specs.declared.indexing.Index.{Index}
use Rattle.clock_choices.specs.declared.branch.Top.{Top}
use Rattle.clock_choices.specs.BranchState.{AreFullFrom, BranchState, assumed, last_steps, taken_with}
use Rattle.clock_choices.specs.Indexing.{AreInOrder, IsIndex}
use Rattle.clock_choices.specs.Linking.{AreNodesOf}
use Rattle.clock_choices.specs.Stacks.{AreStacked, IsMoreBy, IsSeen, level_of, levels_of, stack_onto}
use Rattle.clock_choices.specs.Steps.{bare}
use Rattle.clock_choices.proofs.Seeing.{at_asked, seen_by_is}
use Rattle.clock_choices.proofs.Stacked.{at_full, at_nodes, graph_again, last_of_marked, marked_there, stack_push, stacked_here, stacked_more, stacked_new, state_of, state_with}
use Rattle.clock_choices.proofs.branch.Branch.assume.Goals as goal
use Rattle.clock_choices.proofs.branch.Branch.assume.Goals.{In-Ok}

pub seen_in-seen-requires : goal.seen_in-seen-requires
seen_in-seen-requires c =
    let b = c.self.inside in
    let stack = stack_onto [] b.tops.items in
    record {
      asked = at_asked b.parts b.log.items stack b.graph c.get-index.result.now c.self.invariant.good (subst (λ (index : Index). IsIndex b.parts index) (sym c.get-index.ensures) c.self.invariant.looked_up) (stacked_here b.parts b.ids.items b.log.items stack b.graph c.self.invariant.stacked);
      members = subst (λ (ids : List TxnId). (id : TxnId) → Contains ids id ↔ Remains b.parts id) (sym c.deref-2.ensures.value) c.self.invariant.members;
      rise = subst (λ (ids : List TxnId). AreInOrder ids) (sym c.deref-2.ensures.value) c.self.invariant.rise;
      known = subst (λ (ids : List TxnId). IsSeen b.parts ids b.graph c.seen_by-known.result) (sym c.deref-2.ensures.value) (seen_by_is b.parts b.ids.items b.log.items b.tops.items c.deref.result.now b.graph c.seen_by-known.result c.deref.ensures.value c.seen_by-known.ensures c.self.invariant.stacked);
    }

pub take_side-requires : goal.take_side-requires
take_side-requires c =
    let b = c.self.inside in
    let stack = stack_onto [] b.tops.items in
    let nodes = at_nodes b.parts b.log.items stack b.graph (stacked_here b.parts b.ids.items b.log.items stack b.graph c.self.invariant.stacked) in (
      b.parts,
      subst (λ (index : Index). IsIndex b.parts index) (sym c.get-index.ensures) c.self.invariant.looked_up,
      subst (λ (g : GraphState). AreNodesOf b.parts g.gone g.received) (sym c.in_ok-mark.ensures.ok) nodes,
      subst (λ (state : BranchState). IsChoice state.parts c.args.choice) (sym c.self.view_is) c.requires,
    )

pub back-requires : goal.back-requires
back-requires c = marked_there c.take_side.new.graph c.self.inside.graph (c.take_side.ensures.mark ∙ last_of_marked c.self.inside.graph c.mark.new.self c.in_ok-mark.ensures.ok)

pub invariant_of-self-in-Err : goal.invariant_of-self-in-Err
invariant_of-self-in-Err c =
    let b = c.self.inside in
    record {
      good = c.self.invariant.good;
      members = c.self.invariant.members;
      rise = c.self.invariant.rise;
      looked_up = c.self.invariant.looked_up;
      stacked = subst (λ (tops : List Top). AreStacked b.parts b.ids.items b.log.items (stack_onto [] tops) c.back.new.self) (sym c.in-Err.ensures.err)
          (subst (λ (g : GraphState). AreStacked b.parts b.ids.items b.log.items (stack_onto [] b.tops.items) g) (sym (graph_again b.graph c.mark.new.self c.take_side.new.graph c.back.new.self c.in_ok-mark.ensures.ok c.take_side.ensures.mark c.back.ensures)) c.self.invariant.stacked);
    }

pub returns-in-Err-clause-err : goal.returns-in-Err-clause-err
returns-in-Err-clause-err c = ap (λ (tops : List Top). state_of c.self.inside.parts c.self.inside.log.items (stack_onto [] tops)) c.in-Err.ensures.err ∙ c.self.view_is

-- what is assumed then, and the relation with it
module _ (c : In-Ok) where
  abbrev stack : List Top
  stack = stack_onto [] c.self.inside.tops.items

  abbrev top : Top
  top = record { assumed = record { choice = c.args.choice; side = c.args.side; seen = c.seen_in-seen.result }; steps = c.in-Ok.ensures.ok.0 }

  more : stack_onto [] c.take_side.new.tops.items ≡ top ∷ stack
  more = ap (λ (tops : List Top). stack_onto [] tops) c.in-Ok.ensures.ok.1 ∙ stack_push [] c.self.inside.tops.items top

  by : IsMoreBy c.self.inside.parts c.mark.new.self c.take_side.new.graph c.args.choice c.args.side top.steps.items
  by = c.in-Ok.ensures.ok.2 c.self.inside.parts (subst (λ (index : Index). IsIndex c.self.inside.parts index) (sym c.get-index.ensures) c.self.invariant.looked_up)

  stacked : AreStacked c.self.inside.parts c.self.inside.ids.items c.self.inside.log.items (top ∷ stack) c.take_side.new.graph
  stacked = stacked_more c.self.inside.parts c.self.inside.ids.items c.self.inside.log.items stack c.self.inside.graph c.mark.new.self c.take_side.new.graph top c.self.invariant.stacked c.in_ok-mark.ensures.ok by c.take_side.ensures.mark (subst (λ (ids : List TxnId). IsSeen c.self.inside.parts ids c.self.inside.graph c.seen_in-seen.result) c.deref-2.ensures.value c.seen_in-seen.ensures) (subst (λ (state : BranchState). IsChoice state.parts c.args.choice) (sym c.self.view_is) c.requires)

pub invariant_of-self-in-Ok : goal.invariant_of-self-in-Ok
invariant_of-self-in-Ok c = record {
  good = c.self.invariant.good;
  members = c.self.invariant.members;
  rise = c.self.invariant.rise;
  looked_up = c.self.invariant.looked_up;
  stacked = subst (λ (stack : List Top). AreStacked c.self.inside.parts c.self.inside.ids.items c.self.inside.log.items stack c.take_side.new.graph) (sym (more c)) (stacked c);
}

pub returns-in-Ok-clause-ok : goal.returns-in-Ok-clause-ok
returns-in-Ok-clause-ok c = (
  map bare (top c).steps.items,
  ap (λ (stack : List Top). state_of c.self.inside.parts c.self.inside.log.items stack) (more c) ∙ ap (state_with (level_of (top c))) c.self.view_is,
)

pub returns-in-Ok-clause-full : goal.returns-in-Ok-clause-full
returns-in-Ok-clause-full c =
    let b = c.self.inside in
    let steps = map bare (top c).steps.items in
    let here = at_full b.parts b.log.items (top c ∷ stack c) c.take_side.new.graph (stacked_here b.parts b.ids.items b.log.items (top c ∷ stack c) c.take_side.new.graph (stacked c)) in
    let full = subst (λ (state : BranchState). AreFullFrom b.parts (assumed (levels_of (top c ∷ stack c))) (taken_with state c.args.choice c.args.side) steps) c.self.view_is here in
    subst (λ (stack : List Top). AreFullFrom b.parts (assumed (levels_of stack)) (taken_with c.args.self.now c.args.choice c.args.side) (last_steps (map bare b.log.items) (levels_of stack))) (sym (more c)) full

pub returns-in-Ok-clause-new : goal.returns-in-Ok-clause-new
returns-in-Ok-clause-new c =
    let b = c.self.inside in
    let steps = map bare (top c).steps.items in
    let new = stacked_new b.parts b.ids.items b.log.items (stack c) b.graph c.mark.new.self c.take_side.new.graph (top c) c.self.invariant.stacked c.in_ok-mark.ensures.ok (by c) in
    let here = subst (λ (state : BranchState). AreNew b.parts (taken_with state c.args.choice c.args.side) steps) c.self.view_is new in
    subst (λ (stack : List Top). AreNew b.parts (taken_with c.args.self.now c.args.choice c.args.side) (last_steps (map bare b.log.items) (levels_of stack))) (sym (more c)) here
