-- The cut is one of the problem's parts.
use Rattle.std.proofs.Common.{Option, Some, None, Result, IfSome, IfOk}
use Rattle.std.proofs.lemmas.Result.{IfOk-weaker}
use Rattle.order_check.specs.declared.remainder.Parts.{Parts}
use Rattle.settle.specs.Found.{IsFound}
use Rattle.settle.specs.declared.cuts.Cut.{Cut}
use Rattle.relation_tests.proofs.relations.cut_behind.Goals as goal

some_found : (parts : Parts) (found : Option Cut) → IsFound parts found → IfSome found (λ cut. IsFound parts (Some cut))
some_found parts None is = search
some_found parts (Some cut) is = is

if_found : {E : Type 0} (parts : Parts) (found : Result (Option Cut) E) → IfOk found (IsFound parts) → IfOk found (λ found. IfSome found (λ cut. IsFound parts (Some cut)))
if_found parts found = IfOk-weaker found (IsFound parts) (λ found. IfSome found (λ cut. IsFound parts (Some cut))) (some_found parts)

pub returns : goal.returns
returns g c = if_found c.args.problem.now.known.parts c.find.result c.find.ensures
