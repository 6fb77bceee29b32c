use Rattle.std.proofs.Common.{◌≡◌, [], List, Some, take}
use Rattle.std.specs.List.{slice_get}
use Rattle.std.proofs.lemmas.Result.{IfOk-weaker}
use Rattle.txn.specs.declared.transactions.TxnId.{TxnId}
use Rattle.txn.specs.declared.choices.Arc.{Arc}
use Rattle.txn.specs.declared.choices.ForceStep.{ForceStep}
use Rattle.txn.specs.declared.choices.Side.TheVariants.{First}
use Rattle.order_check.specs.Cycles.{IsForced, Sides, sides_after}
use Rattle.clock_choices.specs.declared.steps.Forced.{Forced}
use Rattle.clock_choices.specs.BranchState.{last_steps, taken_before}
use Rattle.clock_choices.specs.Logging.{IsStepFrom}
use Rattle.clock_choices.specs.Over.{IsOver}
use Rattle.clock_choices.specs.Stacks.{stack_onto, start_of_last, steps_of_last}
use Rattle.clock_choices.specs.Steps.{sides_behind}
use Rattle.clock_choices.proofs.Stacked.{cycle_at, stacked_here, step, step_at, steps_of_same}
use Rattle.clock_choices.proofs.branch.Branch.cycle_of.Goals as goal

abbrev no_id : TxnId
no_id = record { session = 0; number = 0 }

abbrev none : Forced
none = record { choice = record { reader = no_id; key = 0; writer = no_id; other = no_id }; side = First; arcs = 0 }

pub cycle_of_step-requires : goal.cycle_of_step-requires
cycle_of_step-requires c =
    let b = c.self.inside in
    let stack = stack_onto [] b.tops.items in
    let here = stacked_here b.parts b.ids.items b.log.items stack b.graph c.self.invariant.stacked in
    let same = steps_of_same b.log.items c.deref.result.now b.tops.items c.deref-2.result.now c.last_steps.result.now c.last_steps.ensures c.deref.ensures.value c.deref-2.ensures.value in
    (sides_behind (start_of_last b.log.items stack) (take c.args.place (steps_of_last b.log.items stack)), here.over, step_at b.parts b.log.items stack c.args.self.now c.self.view_is c.args.place c.requires c.last_steps.result.now none same b.graph here)

pub returns : goal.returns
returns c =
    let b = c.self.inside in
    let stack = stack_onto [] b.tops.items in
    let here = stacked_here b.parts b.ids.items b.log.items stack b.graph c.self.invariant.stacked in
    let place = c.args.place in
    let now = c.args.self.now in
    let own = c.last_steps.result.now in
    let same = steps_of_same b.log.items c.deref.result.now b.tops.items c.deref-2.result.now own c.last_steps.ensures c.deref.ensures.value c.deref-2.ensures.value in
    let after = step_at b.parts b.log.items stack now c.self.view_is place c.requires own none same b.graph here in
    let one : Forced = step b.parts b.log.items stack now c.self.view_is place c.requires own none same in
    IfOk-weaker c.cycle_of_step.result
    (λ (cycle : List Arc). (taken : Sides) → IsOver b.parts b.graph.gone b.graph.received → IsStepFrom b.parts b.graph.gone b.graph.received b.graph.arcs taken one → IsForced b.parts taken (record { choice = one.choice; side = one.side; cycle = cycle }))
    (λ (cycle : List Arc). (one : ForceStep) → slice_get (last_steps now.log now.levels) place ≡ Some one → IsForced now.parts (sides_after (taken_before now.log now.levels) (take place (last_steps now.log now.levels))) (record one { cycle = cycle }))
    (λ cycle is. cycle_at b.parts b.log.items stack now c.self.view_is place c.requires own none same cycle (is (sides_behind (start_of_last b.log.items stack) (take place (steps_of_last b.log.items stack))) here.over after))
    c.cycle_of_step.ensures
