use Rattle.std.proofs.Common.{◌^◌, ◌-◌, arith}
use Rattle.clock_choices.proofs.Countings.{all_listed}
use Rattle.clock_choices.proofs.open_choices.all_of.Goals as goal

pub returns : goal.returns
returns c = λ parts is. all_listed parts (2 ^ 64 - 1) c.args.found (omega arith) is
