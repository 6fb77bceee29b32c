use Rattle.std.proofs.Common.{refl}
use Rattle.order_check.specs.Rows.{not_a_writer}
use Rattle.order_check.proofs.Fresh.{whole_refuted}
use Rattle.order_check.proofs.facts.row_not_a_writer.Goals as goal

pub returns : goal.returns
returns c = whole_refuted not_a_writer 4 refl
