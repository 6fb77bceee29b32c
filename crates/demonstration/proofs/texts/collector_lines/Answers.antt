use Rattle.std.proofs.Common.{rules}
use Rattle.demonstration.proofs.Lines.{four_lines}
use Rattle.demonstration.proofs.texts.collector_lines.Goals as goal

-- src/texts.rt:32:1
pub returns : goal.returns
returns c = search (rules, four_lines c.args.tally.now.submitted c.args.tally.now.taken)
