use Rattle.std.proofs.lemmas.Result.{IfOk-weaker}
use Rattle.report_checking.proofs.SplitReplies.{Laws, asked_by, fault_by, owed_told, right_told, alone_told, faulty_by, faulty_right, faulty_alone}
use Rattle.log_text.specs.declared.names.Names.TheVariants.{Events}
use Rattle.report_checking.proofs.UnshownReplies.{unshows_split}
use Rattle.report_checking.proofs.open_scripts.OpenScript.owed_isolated.Goals as goal

pub returns-in_ok-owed-in-Ok-clause-owed : goal.returns-in_ok-owed-in-Ok-clause-owed
returns-in_ok-owed-in-Ok-clause-owed c =
    let judged = rw c.in-Ok.is at c.in_ok-split.ensures.split in
    let asked = asked_by c.args.version c.most_sessions.result c.args.command c.in-Ok.split c.most_sessions.ensures judged in
    let laws : Laws = record { steps = c.split_steps_are_legal.ensures; doubles = c.split_doubles_counts.ensures; keeps = c.split_keeps_verdict.ensures } in
    IfOk-weaker c.isolated_owed.result _ _
    (λ given is. owed_told laws c.args.version c.args.self.now.engine c.owed_beside.new.self.engine c.args.self.now.searched c.owed_beside.new.self.searched c.args.command c.in-Ok.split c.in_ok-owed-in-Ok.owed given asked c.in_ok-owed-in-Ok.ensures.owed is) c.isolated_owed.ensures

pub returns-in-Err-clause-owed : goal.returns-in-Err-clause-owed
returns-in-Err-clause-owed c =
    let judged = rw c.in-Err.is at c.in_ok-split.ensures.split in
    let fault = fault_by c.args.version c.most_sessions.result c.args.command c.in-Err.refusal c.most_sessions.ensures judged in
    faulty_by c.args.version c.args.self.now.engine c.args.self.now.searched c.args.command c.in-Err.refusal fault

pub returns-in_ok-owed-in-Ok-clause-right : goal.returns-in_ok-owed-in-Ok-clause-right
returns-in_ok-owed-in-Ok-clause-right c =
    let judged = rw c.in-Ok.is at c.in_ok-split.ensures.split in
    let asked = asked_by c.args.version c.most_sessions.result c.args.command c.in-Ok.split c.most_sessions.ensures judged in
    IfOk-weaker c.isolated_owed.result _ _
    (λ given is. right_told c.args.version c.args.self.now.searched c.args.self.now.engine c.args.command c.in-Ok.split c.args.stored.now c.in_ok-owed-in-Ok.owed given asked.1 c.in_ok-owed-in-Ok.ensures.right is) c.isolated_owed.ensures

pub returns-in-Err-clause-right : goal.returns-in-Err-clause-right
returns-in-Err-clause-right c =
    let judged = rw c.in-Err.is at c.in_ok-split.ensures.split in
    let fault = fault_by c.args.version c.most_sessions.result c.args.command c.in-Err.refusal c.most_sessions.ensures judged in
    faulty_right c.args.version c.args.self.now.searched c.args.self.now.engine c.args.command c.in-Err.refusal c.args.stored.now fault

pub returns-in_ok-owed-in-Ok-clause-alone : goal.returns-in_ok-owed-in-Ok-clause-alone
returns-in_ok-owed-in-Ok-clause-alone c =
    let judged = rw c.in-Ok.is at c.in_ok-split.ensures.split in
    let asked = asked_by c.args.version c.most_sessions.result c.args.command c.in-Ok.split c.most_sessions.ensures judged in
    IfOk-weaker c.isolated_owed.result _ _
    (λ given is. alone_told c.args.version c.args.self.now.searched c.args.self.now.engine c.args.command c.in-Ok.split c.in_ok-owed-in-Ok.owed given asked c.in_ok-owed-in-Ok.ensures.alone is) c.isolated_owed.ensures

pub returns-in-Err-clause-alone : goal.returns-in-Err-clause-alone
returns-in-Err-clause-alone c =
    let judged = rw c.in-Err.is at c.in_ok-split.ensures.split in
    let fault = fault_by c.args.version c.most_sessions.result c.args.command c.in-Err.refusal c.most_sessions.ensures judged in
    faulty_alone c.args.version c.args.self.now.searched c.args.self.now.engine c.args.command c.in-Err.refusal fault

pub returns-in_ok-owed-in-Ok-clause-unshown : goal.returns-in_ok-owed-in-Ok-clause-unshown
returns-in_ok-owed-in-Ok-clause-unshown c =
    let judged = rw c.in-Ok.is at c.in_ok-split.ensures.split in
    let asked = asked_by c.args.version c.most_sessions.result c.args.command c.in-Ok.split c.most_sessions.ensures judged in
    IfOk-weaker c.isolated_owed.result _ _
    (λ given is. unshows_split Events c.args.self.now.engine c.args.command c.in-Ok.split c.args.stored.now c.in_ok-owed-in-Ok.owed given asked.1 c.in_ok-owed-in-Ok.ensures.unshown is) c.isolated_owed.ensures
