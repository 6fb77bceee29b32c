use Rattle.std.proofs.Common.{[], List, Option, subst}
use Rattle.std.specs.Option.{MatchOption}
use Rattle.std.proofs.lemmas.Result.{IfOk-weaker}
use Rattle.txn.specs.declared.choices.Arc.{Arc}
use Rattle.order_check.specs.Cycles.{IsCycle}
use Rattle.order_check.specs.Search.{HasCycle}
use Rattle.clock_choices.specs.Acyclic.{HasNoCycle, IsCycleOf}
use Rattle.clock_choices.specs.BranchState.{BranchState, all_taken, assumed}
use Rattle.clock_choices.specs.Stacks.{stack_onto}
use Rattle.clock_choices.proofs.BranchIds.{cycle_at_last}
use Rattle.clock_choices.proofs.Seeing.{seen_by_is}
use Rattle.clock_choices.proofs.Stacked.{stacked_here}
use Rattle.clock_choices.proofs.branch.Branch.cycle.Goals as goal

pub cycle_in-requires : goal.cycle_in-requires
cycle_in-requires c =
    let b = c.self.inside in
    let stack = stack_onto [] b.tops.items in
    let here = stacked_here b.parts b.ids.items b.log.items stack b.graph c.self.invariant.stacked in
    let seen = seen_by_is b.parts b.ids.items b.log.items b.tops.items c.deref.result.now b.graph c.seen_by-known.result c.deref.ensures.value c.seen_by-known.ensures c.self.invariant.stacked in
    record { over = here.over; acyclic = seen.acyclic }

pub returns : goal.returns
returns c =
    let b = c.self.inside in
    let stack = stack_onto [] b.tops.items in
    let now = c.args.self.now in
    IfOk-weaker c.cycle_in.result
    (λ (found : Option (List Arc)). MatchOption found (HasNoCycle b.graph.gone b.graph.received b.graph.arcs) (IsCycleOf b.parts b.graph.gone b.graph.received b.graph.arcs))
    (λ (found : Option (List Arc)). MatchOption found (¬ HasCycle now.parts (assumed now.levels)) (λ arcs. HasCycle now.parts (assumed now.levels) × IsCycle now.parts (all_taken now.log now.levels) arcs))
    (λ found is. subst (λ (state : BranchState). MatchOption found (¬ HasCycle state.parts (assumed state.levels)) (λ arcs. HasCycle state.parts (assumed state.levels) × IsCycle state.parts (all_taken state.log state.levels) arcs)) c.self.view_is
    (cycle_at_last b.parts b.ids.items b.log.items stack b.graph c.self.invariant.stacked found is))
    c.cycle_in.ensures
