use Rattle.std.proofs.Common.{◌∙◌, [], List, map, sym, ap}
use Rattle.clock_choices.specs.declared.steps.Forced.{Forced}
use Rattle.clock_choices.specs.BranchState.{BranchState, last_steps}
use Rattle.clock_choices.specs.Stacks.{stack_onto}
use Rattle.clock_choices.specs.Steps.{bare}
use Rattle.clock_choices.proofs.Stacked.{last_bare, steps_of_same}
use Rattle.clock_choices.proofs.branch.Branch.steps.Goals as goal

pub returns : goal.returns
returns c =
    let b = c.self.inside in
    let stack = stack_onto [] b.tops.items in
    let same = steps_of_same b.log.items c.deref.result.now b.tops.items c.deref-2.result.now c.last_steps.result.now c.last_steps.ensures c.deref.ensures.value c.deref-2.ensures.value in
    ap (λ (steps : List Forced). map bare steps) same ∙ sym (last_bare b.log.items stack) ∙ ap (λ (state : BranchState). last_steps state.log state.levels) c.self.view_is
