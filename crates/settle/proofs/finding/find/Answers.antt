use Rattle.std.proofs.Common.{sym, subst}
use Rattle.std.specs.Prelude.{IfOk}
use Rattle.order_check.specs.Explains.{Explains}
use Rattle.clock_choices.specs.SaturatedState.{SaturatedState}
use Rattle.settle.specs.Found.{IsFound}
use Rattle.settle.proofs.finding.find.Goals as goal

pub find_in-requires : goal.find_in-requires
find_in-requires c = subst (λ (s : SaturatedState). Explains s.parts c.args.order.now) (sym c.known.ensures) c.requires

pub returns : goal.returns
returns c = subst (λ (s : SaturatedState). IfOk c.find_in.result (IsFound s.parts)) c.known.ensures c.find_in.ensures
