use Rattle.std.proofs.Common.{refl}
use Rattle.order_check.specs.Rows.{write_skew}
use Rattle.order_check.proofs.Fresh.{whole_refuted}
use Rattle.order_check.proofs.facts.row_write_skew.Goals as goal

pub returns : goal.returns
returns c = whole_refuted write_skew 3 refl
