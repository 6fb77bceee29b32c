use Rattle.std.proofs.Common.{subst}
use Rattle.std.specs.Prelude.{IfOk}
use Rattle.order_check.specs.declared.remainder.Parts.{Parts}
use Rattle.guided_search.specs.Believed.{IsBelieved}
use Rattle.guided_search.proofs.finding.answer_within.Goals as goal

pub returns : goal.returns
returns c = subst (λ (p : Parts). IfOk c.answer_from.result (IsBelieved p)) c.parts.ensures.value c.answer_from.ensures
