use Rattle.std.proofs.Common.{ap, arith, rules}
use Rattle.report_queue.proofs.Keeps.{note_keeps, read_keeps}
use Rattle.report_queue.proofs.words.tell.Goals as goal

pub split_seat-note-requires : goal.split_seat-note-requires
split_seat-note-requires c = let one = c.requires.one in (search rules, omega arith, note_keeps _ _)

pub join_seat-requires : goal.join_seat-requires
join_seat-requires c = let one = c.requires.one in (search rules, search rules, search rules, omega arith, read_keeps _ _ _ _ (ap (λ m. m.0.publishes) c.split_seat-note.ensures.4))
