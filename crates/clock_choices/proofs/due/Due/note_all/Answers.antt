use Rattle.clock_choices.proofs.DueLists.{all_noted_more}
use Rattle.clock_choices.proofs.due.Due.note_all.Goals as goal

pub loop-id-preserved : goal.loop-id-preserved
loop-id-preserved c = all_noted_more c.args.self.now c.loop-id.self c.note.new.self c.args.ids.now c.loop-id.id-index _ c.loop-id-test.true c.loop-id.invariant c.in_ok-note.ensures
