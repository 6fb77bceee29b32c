use Rattle.std.proofs.Common.{refl}
use Rattle.live_audit.proofs.Moments.{nothing_taken}
use Rattle.live_audit.proofs.Rounds.{lawful_by, not_moved}
use Rattle.live_audit.proofs.live.answer.Goals as goal

pub returns-in_default-clause-moved : goal.returns-in_default-clause-moved
returns-in_default-clause-moved g c = not_moved c.args.running.now.core c.args.side.now.pass.1 c.args.side.now.sender.sent

pub returns-in_default-try_clone-clause-moved : goal.returns-in_default-try_clone-clause-moved
returns-in_default-try_clone-clause-moved g c = not_moved c.args.running.now.core c.args.side.now.pass.1 c.args.side.now.sender.sent

pub returns-clause-moved : goal.returns-clause-moved
returns-clause-moved g c = not_moved c.args.running.now.core c.args.side.now.pass.1 c.args.side.now.sender.sent

pub returns-in_default-clause-counted : goal.returns-in_default-clause-counted
returns-in_default-clause-counted g c = nothing_taken c.args.running.now.unasked c.args.side.now.pass.1 c.args.side.now.sender.sent

pub returns-in_default-try_clone-clause-counted : goal.returns-in_default-try_clone-clause-counted
returns-in_default-try_clone-clause-counted g c = nothing_taken c.args.running.now.unasked c.args.side.now.pass.1 c.args.side.now.sender.sent

pub returns-clause-counted : goal.returns-clause-counted
returns-clause-counted g c = nothing_taken c.args.running.now.unasked c.args.side.now.pass.1 c.args.side.now.sender.sent

pub returns-in_default-clause-lawful : goal.returns-in_default-clause-lawful
returns-in_default-clause-lawful g c =
    let search = c.args.running.now.core.search in let by = c.search-budget in
    lawful_by c.args.problem c.args.problem by.result.0 search.budget by.result.1 search.depth c.solved.result refl by.ensures.0 by.ensures.1 c.solved.ensures

pub returns-in_default-try_clone-clause-lawful : goal.returns-in_default-try_clone-clause-lawful
returns-in_default-try_clone-clause-lawful g c =
    let search = c.args.running.now.core.search in let by = c.search-budget in
    lawful_by c.args.problem c.args.problem by.result.0 search.budget by.result.1 search.depth c.solved-in_default-try_clone.result refl by.ensures.0 by.ensures.1 c.solved-in_default-try_clone.ensures

pub returns-in-Ok-start-clause-lawful : goal.returns-in-Ok-start-clause-lawful
returns-in-Ok-start-clause-lawful g c =
    let search = c.args.running.now.core.search in let by = c.search-budget in
    let law = c.in-Ok-start.thread.promise in let runs = c.in-Ok-start.ensures.runs in
    lawful_by c.args.problem c.args.problem by.result.0 search.budget by.result.1 search.depth c.join.result refl by.ensures.0 by.ensures.1
    (lawful_by law.problem.value c.args.problem law.budget by.result.0 law.depth by.result.1 c.join.result runs.0 runs.1 runs.2 c.join.ensures)

pub returns-clause-lawful : goal.returns-clause-lawful
returns-clause-lawful g c =
    let search = c.args.running.now.core.search in let by = c.search-budget in
    lawful_by c.args.problem c.args.problem by.result.0 search.budget by.result.1 search.depth c.in-Err.answer refl by.ensures.0 by.ensures.1 c.in-Err.ensures.ended
