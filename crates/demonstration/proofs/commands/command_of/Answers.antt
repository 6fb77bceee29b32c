use Rattle.std.proofs.Common.{sym, subst}
use Rattle.std.specs.Str.{IsUtf8}
use Rattle.demonstration.proofs.Spaces.{line_is_text}
use Rattle.demonstration.proofs.commands.command_of.Goals as goal

-- src/commands.rt:76:9
pub returns-in_default : goal.returns-in_default
returns-in_default c command allowed is = c.in_default.ensures.cases.0 (subst IsUtf8 (sym is) (line_is_text command allowed))
