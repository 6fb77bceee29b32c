use Rattle.std.proofs.Common.{refl, []}
use Rattle.order_check.specs.Rows.{nothing}
use Rattle.order_check.proofs.Fresh.{serial_by_test}
use Rattle.order_check.proofs.facts.row_empty.Goals as goal

pub returns : goal.returns
returns c = serial_by_test nothing [] refl refl refl
