use Rattle.std.proofs.Common.{take}
use Rattle.strict_offers.specs.Latest.{IsLatestBegin}
use Rattle.strict_offers.proofs.fitting.latest_begin.Given as goal

abbrev pub invariant-loop-txn : goal.invariant-loop-txn
invariant-loop-txn l = IsLatestBegin (take l.txn-index l.txns) l.latest
