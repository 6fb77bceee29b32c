use Rattle.std.proofs.Common.{sym}
use Rattle.clock_choices.proofs.Seeing.{last_seen_of}
use Rattle.clock_choices.proofs.branch.seen_by.Goals as goal

pub returns-in-Some : goal.returns-in-Some
returns-in-Some c = sym (last_seen_of c.args.tops.now c.in-Some.top.now (sym c.in-Some.ensures.value))
