use Rattle.std.proofs.Common.{arith, rules}
use Rattle.shared_search.proofs.Keeps.{find_keeps}
use Rattle.shared_search.proofs.words.find.Goals as goal

pub fetch_min-requires : goal.fetch_min-requires
fetch_min-requires c = let three = c.requires.three in (search rules, omega arith, find_keeps _ _ _ _ _ _ c.requires.parts c.requires.claimed)
