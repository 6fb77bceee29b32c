use Rattle.std.proofs.Common.{arith, rules}
use Rattle.shared_search.proofs.Pooling.{join_keeps}
use Rattle.shared_search.proofs.words.pool.Goals as goal

pub join_seat-requires : goal.join_seat-requires
join_seat-requires c = let three = c.requires.three in (search rules, search rules, search rules, omega arith, join_keeps _ _ _ _ _ _ c.requires.parts)
