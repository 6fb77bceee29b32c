use Rattle.std.proofs.Common.{arith, rules}
use Rattle.shared_search.proofs.Pooling.{split_keeps}
use Rattle.shared_search.proofs.words.fork.Goals as goal

pub split_seat-requires : goal.split_seat-requires
split_seat-requires c = let three = c.requires.three in (search rules, omega arith, split_keeps _ _ _ _ c.requires.fresh.0 c.requires.fresh.1)
