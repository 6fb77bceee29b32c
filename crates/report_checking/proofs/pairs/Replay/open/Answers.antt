use Rattle.std.proofs.Common.{Some, sym, subst}
use Rattle.log_text.specs.declared.commands.Command.TheVariants.{Start}
use Rattle.log_text.specs.declared.versions.Promise.TheVariants.{Resumable}
use Rattle.log_text.specs.declared.replies.Reply.TheVariants as told
use Rattle.report_checking.specs.OwedLines.{Owes}
use Rattle.report_checking.specs.Reading.{LeadsScript}
use Rattle.report_checking.specs.declared.open_scripts.OpenScript.{OpenScript}
use Rattle.report_checking.proofs.CheckedLines.{opened}
use Rattle.report_checking.proofs.ScriptReplies.{opened_alone, unopened_alone}
use Rattle.report_checking.proofs.pairs.Replay.open.Goals as goal

pub returns-in-Ok-clause-owed : goal.returns-in-Ok-clause-owed
returns-in-Ok-clause-owed c =
    subst (λ (it : OpenScript). LeadsScript c.args.self.now.script (Some it) (λ before after. Owes before (Start c.args.sessions c.args.limit (Resumable c.args.opening)) told.Done after)) (sym c.new.ensures)
    (opened c.args.self.now.script c.in-Ok.engine c.args.sessions c.args.limit c.args.opening c.requires c.in-Ok.ensures.holds c.in-Ok.ensures.numbers)

pub returns-in-Ok-clause-alone : goal.returns-in-Ok-clause-alone
returns-in-Ok-clause-alone c = opened_alone c.args.self.now.script c.args.sessions c.args.limit c.args.opening c.requires c.in-Ok.ensures.numbers

pub returns-in-Err-clause-alone : goal.returns-in-Err-clause-alone
returns-in-Err-clause-alone c = unopened_alone c.args.self.now.script c.args.sessions c.args.limit c.args.opening c.in-Err.refusal c.requires c.in-Err.ensures.err
