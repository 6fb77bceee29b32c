use Rattle.std.proofs.Common.{[]}
use Rattle.std.proofs.lemmas.Result.{IfOk-weaker}
use Rattle.report_checking.specs.Reading.{FindsFor, IsFoundOf, IsFair, IsOtherwise, IsUnshownIn}
use Rattle.report_checking.proofs.CheckedLines.{found_for}
use Rattle.report_checking.proofs.UnshownReplies.{unshown_unread, unshows_weaker}
use Rattle.report_checking.proofs.NoBraces.{brace_fair}
use Rattle.report_checking.proofs.ScriptReplies.{other_found}
use Rattle.report_checking.proofs.pairs.Replay.check_unread.Goals as goal

pub returns-clause-finds : goal.returns-clause-finds
returns-clause-finds c =
    let unshown = unshows_weaker (IsUnshownIn c.args.self.now.script c.args.command []) (IsUnshownIn c.args.self.now.script c.args.command c.args.stored.now) (unshown_unread c.args.self.now.script c.args.command c.args.stored.now) c.in_ok-owed.owed c.in_ok-owed.ensures.unshown in
    IfOk-weaker c.found_of.result (IsFoundOf c.in_ok-owed.owed c.args.stored.now) (λ got. FindsFor c.args.self.now.script c.args.command c.args.stored.now got c.owed.new.self.script)
    (found_for c.args.self.now.script c.owed.new.self.script c.args.command c.args.stored.now c.in_ok-owed.owed c.in_ok-owed.ensures.owed unshown) c.found_of.ensures

pub returns-clause-fair : goal.returns-clause-fair
returns-clause-fair c =
    IfOk-weaker c.found_of.result (IsFoundOf c.in_ok-owed.owed c.args.stored.now) (IsFair c.args.self.now.script c.args.command c.args.stored.now)
    (λ got is. brace_fair c.args.self.now.script c.args.command c.args.stored.now got c.requires.brace) c.found_of.ensures

pub returns-clause-otherwise : goal.returns-clause-otherwise
returns-clause-otherwise c =
    IfOk-weaker c.found_of.result (IsFoundOf c.in_ok-owed.owed c.args.stored.now) (IsOtherwise c.args.self.now.script c.args.command c.args.stored.now)
    (λ got is. other_found c.args.self.now.script c.args.command c.args.stored.now c.in_ok-owed.owed c.in_ok-owed.ensures.alone c.requires.checked c.requires.ended got is) c.found_of.ensures
