use Rattle.std.proofs.Common.{◌≡◌, ℕ, List, subst}
use Rattle.log_text.specs.declared.commands.Command.{Command}
use Rattle.log_text.specs.Commands.{IsCommand}
use Rattle.log_text.specs.Held.{held}
use Rattle.cobra.proofs.AskedLines.{asks_none, asks_told}
use Rattle.cobra.proofs.LightCommands.{given_few}
use Rattle.cobra.proofs.scripts.command_within.Goals as goal

pub returns-in-Ok-clause-some : goal.returns-in-Ok-clause-some
returns-in-Ok-clause-some c =
    let is = subst (λ (bytes : List ℕ). (whole : Command) × IsCommand c.args.names bytes whole × (c.in-Ok.command ≡ held c.args.most whole)) c.deref.ensures.value c.in-Ok.ensures.ok in
    rw c.in-Line.is (asks_told c.args.names c.args.most c.in-Line.line c.in-Ok.command is)

pub returns-in-Ok-clause-few : goal.returns-in-Ok-clause-few
returns-in-Ok-clause-few c = given_few c.args.most c.in-Ok.ensures.ok.0 c.in-Ok.command c.in-Ok.ensures.ok.2

pub returns-in_default : goal.returns-in_default
returns-in_default c = record {
  some = tt;
  few = tt;
  none = rw c.in-Line.is (asks_none c.args.names c.in-Line.line c.deref.result.now c.in-Err.refusal c.deref.ensures.value c.in_default.not-NoMemory c.in-Err.ensures.err);
  limits = tt;
}
