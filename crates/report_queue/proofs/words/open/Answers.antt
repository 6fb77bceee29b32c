use Rattle.std.proofs.Common.{arith, rules}
use Rattle.report_queue.proofs.Keeps.{open_keeps}
use Rattle.report_queue.proofs.words.open.Goals as goal

pub split_seat-requires : goal.split_seat-requires
split_seat-requires c = let one = c.requires.one in (search rules, omega arith, open_keeps _ _)
