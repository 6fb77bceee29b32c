use Rattle.std.proofs.Common.{arith, rules}
use Rattle.shared_search.proofs.Keeps.{claim_keeps}
use Rattle.shared_search.proofs.words.draw.Goals as goal

pub fetch_add-requires : goal.fetch_add-requires
fetch_add-requires c = let three = c.requires.three in (search rules, omega arith, claim_keeps _ _ _ _ _ c.requires.parts.0 c.requires.parts.1)
