use Rattle.std.proofs.Common.{◌∙◌, All, List, ap, subst, sym}
use Rattle.std.proofs.lemmas.List.Elements.{All-take}
use Rattle.txn.specs.declared.choices.Choice.{Choice}
use Rattle.order_check.specs.Known.{IsChoice}
use Rattle.polygraph.specs.ProblemState.{IsProblem, ProblemState}
use Rattle.polygraph.specs.SharedProblems.{problem_in}
use Rattle.polygraph.specs.declared.problems.Asked.{Asked}
use Rattle.polygraph.proofs.CubeBounds.{first_are_choices}
use Rattle.polygraph.proofs.problems.Problem.choices.Goals as goal

pub returns-else-depth-first-clause-choices : goal.returns-else-depth-first-clause-choices
returns-else-depth-first-clause-choices c =
    let problem : ProblemState = problem_in c.deref.result.now in
    let are = subst (λ (p : ProblemState). All (IsChoice p.known.parts) problem.first) (ap problem_in c.deref.ensures ∙ c.self.view_is) (first_are_choices problem (subst (λ (a : Asked). IsProblem (problem_in a)) (sym c.deref.ensures) c.self.invariant)) in
    subst (λ (cs : List Choice). All (IsChoice c.args.self.now.known.parts) cs) (sym c.as_slice-first.ensures) are

pub returns-then-depth-first-clause-choices : goal.returns-then-depth-first-clause-choices
returns-then-depth-first-clause-choices c =
    let problem : ProblemState = problem_in c.deref.result.now in
    let are = subst (λ (p : ProblemState). All (IsChoice p.known.parts) problem.first) (ap problem_in c.deref.ensures ∙ c.self.view_is) (first_are_choices problem (subst (λ (a : Asked). IsProblem (problem_in a)) (sym c.deref.ensures) c.self.invariant)) in
    let all = subst (λ (cs : List Choice). All (IsChoice c.args.self.now.known.parts) cs) (sym c.as_slice-first.ensures) are in
    All-take (IsChoice c.args.self.now.known.parts) c.args.depth c.as_slice-first.result.now all
