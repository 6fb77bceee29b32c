use Rattle.std.proofs.lemmas.Result.{IfOk-weaker}
use Rattle.refutation.proofs.SideSets.{either_way}
use Rattle.refutation.proofs.used.UsedSides.united.Goals as goal

pub returns-then-len : goal.returns-then-len
returns-then-len c = IfOk-weaker c.with_all.result _ _ (λ both h side. (λ has. either_way ((h side).0 has), λ has. (h side).1 (either_way has))) c.with_all.ensures
