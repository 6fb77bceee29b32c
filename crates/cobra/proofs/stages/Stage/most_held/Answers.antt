use Rattle.std.proofs.Common.{◌<◌, arith}
use Rattle.cobra.specs.declared.stages.TheConstants.{TOO_MANY}
use Rattle.cobra.proofs.HeldCommands.{enough_held}
use Rattle.cobra.proofs.stages.Stage.most_held.Goals as goal

pub returns-in-Handing-clause-enough : goal.returns-in-Handing-clause-enough
returns-in-Handing-clause-enough c = λ command answer new is. is

pub returns-in_default-clause-enough : goal.returns-in_default-clause-enough
returns-in_default-clause-enough c =
    let above : 256 < TOO_MANY = omega arith in enough_held TOO_MANY c.args.self.now above c.in_default.not-Handing
