use Rattle.std.proofs.Common.{◌≢◌, [], ◌∙◌, List, sym, ap, subst}
use Rattle.clock_choices.specs.declared.branch.Top.{Top}
use Rattle.clock_choices.specs.BranchState.{BranchState}
use Rattle.clock_choices.specs.Stacks.{AreStacked, levels_of, stack_onto}
use Rattle.clock_choices.proofs.Stacked.{back_one, stack_back, stacked_less, stacked_marks, state_back, state_of}
use Rattle.clock_choices.proofs.branch.Branch.back.Goals as goal

pub back-requires : goal.back-requires
back-requires c =
    let b = c.self.inside in
    let stack = stack_onto [] b.tops.items in
    let some : levels_of stack ≢ [] = λ e. c.requires (sym (ap (λ (state : BranchState). state.levels) c.self.view_is) ∙ e) in
    stacked_marks b.parts b.ids.items b.log.items stack b.graph some c.self.invariant.stacked

pub invariant_of-self : goal.invariant_of-self
invariant_of-self c =
    let b = c.self.inside in
    let old = b.tops in
    let stack = stack_onto [] old.items in
    let some : levels_of stack ≢ [] = λ e. c.requires (sym (ap (λ (state : BranchState). state.levels) c.self.view_is) ∙ e) in
    let less = stack_back old.items c.pop-last.new.self.items c.pop-last.result old.len c.pop-last.new.self.len old.ok.0 c.pop-last.ensures.cases c.pop-last.ensures.items some in
    record {
      good = c.self.invariant.good;
      members = c.self.invariant.members;
      rise = c.self.invariant.rise;
      looked_up = c.self.invariant.looked_up;
      stacked = subst (λ (stack : List Top). AreStacked b.parts b.ids.items b.log.items stack c.back.new.self) (sym less) (stacked_less b.parts b.ids.items b.log.items stack b.graph c.back.new.self some c.self.invariant.stacked c.back.ensures);
    }

pub returns : goal.returns
returns c =
    let b = c.self.inside in
    let old = b.tops in
    let stack = stack_onto [] old.items in
    let some : levels_of stack ≢ [] = λ e. c.requires (sym (ap (λ (state : BranchState). state.levels) c.self.view_is) ∙ e) in
    let less = stack_back old.items c.pop-last.new.self.items c.pop-last.result old.len c.pop-last.new.self.len old.ok.0 c.pop-last.ensures.cases c.pop-last.ensures.items some in
    ap (λ (stack : List Top). state_of b.parts b.log.items stack) less ∙ back_one b.parts b.log.items stack ∙ ap state_back c.self.view_is
