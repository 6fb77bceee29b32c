use Rattle.std.proofs.Common.{arith, rules}
use Rattle.shared_search.proofs.Keeps.{look_keeps}
use Rattle.shared_search.proofs.words.look.Goals as goal

pub load-requires : goal.load-requires
load-requires c = let three = c.requires.three in (search rules, omega arith, look_keeps _ _ _ _ _)
