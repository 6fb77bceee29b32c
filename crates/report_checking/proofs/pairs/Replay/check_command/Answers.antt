use Rattle.std.proofs.Common.{refl, sym, ◌∙◌}
use Rattle.std.proofs.lemmas.Bool.{false≢true}
use Rattle.std.proofs.lemmas.Result.{IfOk-weaker}
use Rattle.log_text.specs.declared.replies.Reply.TheVariants as told
use Rattle.report_checking.proofs.CheckedLines.{found_for, goes_on}
use Rattle.report_checking.specs.Reading.{FindsFor, IsFoundOf, IsOtherwise}
use Rattle.report_checking.proofs.ScriptReplies.{other_found}
use Rattle.report_checking.proofs.pairs.Replay.check_command.Goals as goal

pub returns-then-branch-2-clause-finds : goal.returns-then-branch-2-clause-finds
returns-then-branch-2-clause-finds c =
    (told.Searching, c.in_ok-is_going_on.ensures.text c.if-branch-2.true, refl, goes_on c.args.self.now.script c.args.command (c.in_ok-is_going_on.ensures.takes c.if-branch-2.true))

pub returns-clause-finds : goal.returns-clause-finds
returns-clause-finds c =
    IfOk-weaker c.found_of.result (IsFoundOf c.in_ok-owed.owed c.args.stored.now) (λ got. FindsFor c.args.self.now.script c.args.command c.args.stored.now got c.owed.new.self.script)
    (found_for c.args.self.now.script c.owed.new.self.script c.args.command c.args.stored.now c.in_ok-owed.owed c.in_ok-owed.ensures.owed c.in_ok-owed.ensures.unshown) c.found_of.ensures

pub returns-clause-otherwise : goal.returns-clause-otherwise
returns-clause-otherwise c =
    let checked = c.in_ok-is_left_out.ensures.none (λ yes. false≢true (sym c.if-branch.false ∙ yes)) in
    let ended = c.in_ok-is_going_on.ensures.none (λ yes. false≢true (sym c.if-branch-2.false ∙ yes)) in
    IfOk-weaker c.found_of.result (IsFoundOf c.in_ok-owed.owed c.args.stored.now) (IsOtherwise c.args.self.now.script c.args.command c.args.stored.now)
    (λ got is. other_found c.args.self.now.script c.args.command c.args.stored.now c.in_ok-owed.owed c.in_ok-owed.ensures.alone checked ended got is) c.found_of.ensures
