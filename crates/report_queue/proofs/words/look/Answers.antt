use Rattle.std.proofs.Common.{arith, rules}
use Rattle.report_queue.proofs.Keeps.{look_keeps}
use Rattle.report_queue.proofs.words.look.Goals as goal

pub load-requires : goal.load-requires
load-requires c = let one = c.requires.one in (search rules, omega arith, look_keeps _ _ _)
