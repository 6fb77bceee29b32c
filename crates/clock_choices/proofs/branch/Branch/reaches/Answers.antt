use Rattle.std.proofs.Common.{[], subst}
use Rattle.std.specs.Prelude.{◌↔◌, IsTrue}
use Rattle.order_check.specs.Known.{Known}
use Rattle.clock_choices.specs.BranchState.{BranchState, assumed}
use Rattle.clock_choices.specs.Stacks.{stack_onto}
use Rattle.clock_choices.proofs.Stacked.{at_exact, stacked_here}
use Rattle.clock_choices.proofs.branch.Branch.reaches.Goals as goal

pub returns : goal.returns
returns c =
    let b = c.self.inside in
    let stack = stack_onto [] b.tops.items in
    let known = at_exact b.parts b.log.items stack b.graph (stacked_here b.parts b.ids.items b.log.items stack b.graph c.self.invariant.stacked) c.args.earlier c.args.later in
    let exact = c.reaches.ensures.exact in
    subst (λ (state : BranchState). IsTrue c.reaches.result ↔ Known state.parts (assumed state.levels) c.args.earlier c.args.later) c.self.view_is ((λ yes. known.0 (exact.0 yes)), (λ is. exact.1 (known.1 is)))
