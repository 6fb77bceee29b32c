use Rattle.std.proofs.Common.{arith, rules}
use Rattle.shared_search.proofs.Pooling.{settle_keeps}
use Rattle.shared_search.proofs.words.settle.Goals as goal

pub load-requires : goal.load-requires
load-requires c = let three = c.requires.three in (search rules, omega arith, settle_keeps _ _ _ _ _ c.requires.parts.0 c.requires.parts.1)
