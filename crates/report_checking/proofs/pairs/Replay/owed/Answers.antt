use Rattle.std.proofs.Common.{Some}
use Rattle.std.proofs.lemmas.Result.{IfOk-weaker}
use Rattle.report_checking.specs.OwedLines.{Owes, OwesIn}
use Rattle.report_checking.specs.Reading.{LeadsIn, LeadsScript, IsOwedBy}
use Rattle.report_checking.specs.declared.open_scripts.OpenScript.{OpenScript}
use Rattle.report_checking.proofs.OwedReplies.{open_owed}
use Rattle.report_checking.proofs.pairs.Replay.owed.Goals as goal

pub returns-in-Some-clause-owed : goal.returns-in-Some-clause-owed
returns-in-Some-clause-owed c =
    let old : OpenScript = c.in-Some.script in
    let new : OpenScript = c.owed.new.self in
    rw c.in-Some.is
    (IfOk-weaker c.owed.result (IsOwedBy (λ answer. LeadsIn old.opening old.engine new.engine (λ before after. OwesIn old.opening old.searched before c.args.command answer new.searched after))) (IsOwedBy (λ answer. LeadsScript (Some old) (Some new) (λ before after. Owes before c.args.command answer after)))
    (λ given. open_owed old new c.args.command given c.owed.ensures.opening) c.owed.ensures.owed)

pub returns-in-Some-clause-right : goal.returns-in-Some-clause-right
returns-in-Some-clause-right c = rw c.in-Some.is c.owed.ensures.right

pub returns-in-Some-clause-unshown : goal.returns-in-Some-clause-unshown
returns-in-Some-clause-unshown c = rw c.in-Some.is c.owed.ensures.unshown

pub returns-in-Some-clause-alone : goal.returns-in-Some-clause-alone
returns-in-Some-clause-alone c = rw c.in-Some.is c.owed.ensures.alone
