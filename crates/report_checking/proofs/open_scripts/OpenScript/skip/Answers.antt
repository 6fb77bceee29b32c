use Rattle.std.proofs.Common.{refl, false}
use Rattle.std.proofs.lemmas.Result.{IfOk-weaker}
use Rattle.report_checking.proofs.OwedReplies.{skip_owed}
use Rattle.report_checking.proofs.open_scripts.OpenScript.skip.Goals as goal

pub returns-clause-owed : goal.returns-clause-owed
returns-clause-owed c = IfOk-weaker c.owed_step.result _ _ (λ given. skip_owed c.args.self.now.engine c.owed_step.new.engine false given refl) c.owed_step.ensures.owed
