use Rattle.std.proofs.Common.{arith, rules}
use Rattle.report_queue.proofs.Keeps.{publish_keeps}
use Rattle.report_queue.proofs.words.publish.Goals as goal

pub store-requires : goal.store-requires
store-requires c = let one = c.requires.one in (search rules, omega arith, publish_keeps _ _ _ _ _ _ c.code_of.ensures.value c.requires.publisher c.requires.round.0 c.requires.later)
