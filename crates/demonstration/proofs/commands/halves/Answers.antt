use Rattle.std.proofs.Common.{arith}
use Rattle.std.proofs.lemmas.Str.Pattern.{split_after}
use Rattle.demonstration.specs.Names.{fault_name}
use Rattle.demonstration.proofs.Spaces.{no_space}
use Rattle.demonstration.proofs.commands.halves.Goals as goal

pub returns : goal.returns
returns c fault rest is = split_after 32 c.args.text.now (fault_name fault) rest _ c.split_once.ensures.cases (omega arith) is (no_space fault)
