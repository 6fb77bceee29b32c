use Rattle.std.proofs.Common.{arith, rules}
use Rattle.shared_search.proofs.Keeps.{answer_keeps}
use Rattle.shared_search.proofs.words.answer.Goals as goal

pub fetch_add-requires : goal.fetch_add-requires
fetch_add-requires g c = let three = c.requires.three in (search rules, omega arith, answer_keeps _ _ _ _ _ _ c.requires.parts c.requires.claimed)
