use Rattle.std.proofs.Common.{◌∙◌, length, sym, ap}
use Rattle.clock_choices.specs.BranchState.{BranchState}
use Rattle.clock_choices.proofs.Stacked.{depth_of}
use Rattle.clock_choices.proofs.branch.Branch.depth.Goals as goal

pub returns : goal.returns
returns c =
    let tops = c.self.inside.tops.items in
    c.len.ensures ∙ c.self.inside.tops.ok.0 ∙ sym (depth_of tops) ∙ ap (λ (b : BranchState). length b.levels) c.self.view_is
