use Rattle.round_state.proofs.Replies.{asked_lawful}
use Rattle.round_state.proofs.state.Engine.reply_to_finish.Goals as goal

pub returns-in-Ok : goal.returns-in-Ok
returns-in-Ok g c = record {
  right = c.in-Ok.ensures.right c.args.effort.budget c.args.effort.depth c.args.effort.workers
      (asked_lawful c.args.self.now.asked c.in-Some.problem.now.known.parts c.args.effort.budget c.args.effort.depth c.solve-answer.result c.in-Some.ensures c.solve-answer.ensures);
}

pub returns-in-Err : goal.returns-in-Err
returns-in-Err g c = record {
  right = c.in-Err.ensures.right c.args.effort.budget c.args.effort.depth c.args.effort.workers
      (asked_lawful c.args.self.now.asked c.in-Some.problem.now.known.parts c.args.effort.budget c.args.effort.depth c.solve-answer.result c.in-Some.ensures c.solve-answer.ensures);
}
