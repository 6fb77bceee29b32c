use Rattle.std.proofs.lemmas.Result.{IfOk-weaker}
use Rattle.report_checking.specs.Reading.{Finds, FindsFor}
use Rattle.report_checking.proofs.CheckedLines.{finds_asked, finds_none}
use Rattle.report_checking.proofs.RightReports.{fair_asked, fair_none}
use Rattle.report_checking.proofs.ScriptReplies.{otherwise_asked, otherwise_none}
use Rattle.report_checking.proofs.pairs.Replay.check.Goals as goal

pub returns-in-Some-clause-finds : goal.returns-in-Some-clause-finds
returns-in-Some-clause-finds c =
    let asks = rw c.names.ensures at (rw c.in-Some.is at c.in_ok-command.ensures.some) in
    IfOk-weaker c.check_command.result (λ found. FindsFor c.args.self.now.script c.in-Some.command c.args.stored.now found c.check_command.new.self.script) (λ found. Finds c.args.self.now.script c.args.next.now c.args.stored.now found c.check_command.new.self.script)
    (finds_asked c.args.self.now.script c.check_command.new.self.script c.args.next.now c.in-Some.command c.args.stored.now asks) c.check_command.ensures.finds

pub returns-in-None-clause-finds : goal.returns-in-None-clause-finds
returns-in-None-clause-finds c =
    let none = rw c.names.ensures at (rw c.in-None.is at c.in_ok-command.ensures.none) in
    IfOk-weaker c.found_by.result _ _ (finds_none c.args.self.now.script c.args.next.now c.args.stored.now none) c.found_by.ensures

pub returns-in-Some-clause-fair : goal.returns-in-Some-clause-fair
returns-in-Some-clause-fair c =
    let asks = rw c.names.ensures at (rw c.in-Some.is at c.in_ok-command.ensures.some) in
    IfOk-weaker c.check_command.result _ _ (fair_asked c.args.self.now.script c.args.next.now c.in-Some.command c.args.stored.now asks) c.check_command.ensures.fair

pub returns-in-None-clause-fair : goal.returns-in-None-clause-fair
returns-in-None-clause-fair c =
    let none = rw c.names.ensures at (rw c.in-None.is at c.in_ok-command.ensures.none) in
    IfOk-weaker c.found_by.result _ _ (λ got is. fair_none c.args.self.now.script c.args.next.now c.args.stored.now none got) c.found_by.ensures

pub returns-in-Some-clause-otherwise : goal.returns-in-Some-clause-otherwise
returns-in-Some-clause-otherwise c =
    let asks = rw c.names.ensures at (rw c.in-Some.is at c.in_ok-command.ensures.some) in
    IfOk-weaker c.check_command.result _ _ (otherwise_asked c.args.self.now.script c.args.next.now c.in-Some.command c.args.stored.now asks) c.check_command.ensures.otherwise

pub returns-in-None-clause-otherwise : goal.returns-in-None-clause-otherwise
returns-in-None-clause-otherwise c =
    let none = rw c.names.ensures at (rw c.in-None.is at c.in_ok-command.ensures.none) in
    IfOk-weaker c.found_by.result _ _ (otherwise_none c.args.self.now.script c.args.next.now c.args.stored.now none) c.found_by.ensures
