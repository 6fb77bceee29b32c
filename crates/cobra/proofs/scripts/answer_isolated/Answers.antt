use Rattle.cobra.proofs.IsolatedAnswers.{told_isolated}
use Rattle.cobra.proofs.scripts.answer_isolated.Goals as goal

pub returns-in_ok-reply-in-Ok : goal.returns-in_ok-reply-in-Ok
returns-in_ok-reply-in-Ok g c =
    let asked = rw c.in-Ok.is at c.in_ok-split.ensures.split in
    told_isolated c.args.version c.most_sessions.result c.args.audit.now c.answer_open.new.audit c.args.command c.in-Ok.split c.in_ok-reply-in-Ok.reply c.isolated_of.result c.most_sessions.ensures asked c.in_ok-reply-in-Ok.ensures c.isolated_of.ensures.told
