use Rattle.std.proofs.Common.{List, [], ◌∷◌, ◌++◌, length, sym, ap, ◌∙◌, subst, arith, length-append}
use Rattle.std.proofs.IntoIterSteps.{All-taken}
use Rattle.std.proofs.lemmas.List.{length_push}
use Rattle.std.specs.Vec.Iter.{into_iter_items}
use Rattle.round_state.specs.Runs.{RunsLegally}
use Rattle.round_state.specs.Steps.{RunsTo}
use Rattle.round_state.specs.declared.steps.Step.{Step}
use Rattle.round_state.specs.declared.steps.StepReply.{StepReply}
use Rattle.round_state.proofs.Running.{right_none, right_more, runs_none, runs_more, taken_front}
use Rattle.round_state.proofs.state.Engine.run.Goals as goal

pub note-requires : goal.note-requires
note-requires g c =
    let front = taken_front c.into_iter-step-iterator.result c.loop-step.yielded c.loop-step.step-iterator c.loop-step.yielded_by in
    let whole = sym c.into_iter-step-iterator.ensures.into_iter_gives.0 ∙ front ∙ ap (λ (steps : List Step). c.loop-step.yielded ++ steps) c.in-Some.ensures.steps.0 in
    let long = ap (λ (steps : List Step). length steps) whole ∙ length-append c.loop-step.yielded (c.in-Some.step ∷ into_iter_items c.next.new.self) in
    omega (arith, long, c.args.steps.ok.0, c.loop-step.invariant.count, c.loop-step.invariant.room)

pub loop-step-init : goal.loop-step-init
loop-step-init g c = record {
  right = subst (λ (replies : List StepReply). RunsTo c.args.self.now [] replies c.args.self.now) (sym c.in_ok-replies.ensures.items) (right_none c.args.self.now);
  legal = subst (λ (replies : List StepReply). RunsLegally c.args.self.now [] replies c.args.self.now) (sym c.in_ok-replies.ensures.items) (runs_none c.args.self.now);
  count = c.in_ok-replies.ensures.len;
  room = omega (arith, c.in_ok-replies.ensures.exact, c.len.ensures);
}

pub loop-step-preserved : goal.loop-step-preserved
loop-step-preserved g c =
    let step = c.in-Some.step in
    let reply = c.step-reply.result in
    let long = ap (λ (replies : List StepReply). length replies) c.note.ensures.items ∙ length_push c.loop-step.replies.items reply in
    record {
      right = subst (λ (replies : List StepReply). RunsTo c.args.self.now (c.loop-step.yielded ++ step ∷ []) replies c.step-reply.new.self) (sym {A = List StepReply} c.note.ensures.items)
          (right_more c.args.self.now c.loop-step.self c.step-reply.new.self c.loop-step.yielded c.loop-step.replies.items step reply c.loop-step.invariant.right c.step-reply.ensures.right);
      legal = subst (λ (replies : List StepReply). RunsLegally c.args.self.now (c.loop-step.yielded ++ step ∷ []) replies c.step-reply.new.self) (sym {A = List StepReply} c.note.ensures.items)
          (runs_more c.args.self.now c.loop-step.self c.step-reply.new.self c.loop-step.yielded c.loop-step.replies.items step reply c.loop-step.invariant.legal c.step-reply.ensures.legal);
      count = omega (arith, long, length_push c.loop-step.yielded step, c.note.new.replies.ok.0, c.loop-step.replies.ok.0, c.loop-step.invariant.count);
      room = omega (arith, c.note.ensures.capacity, c.loop-step.invariant.room);
    }

pub returns-clause-right : goal.returns-clause-right
returns-clause-right g c =
    let all = All-taken c.into_iter-step-iterator.result c.loop-step.yielded (c.next.new.self, (c.loop-step.step-iterator, c.loop-step.yielded_by, c.in-None.ensures.steps)) in
    subst (λ (steps : List Step). RunsTo c.args.self.now steps c.loop-step.replies.items c.loop-step.self) (all ∙ c.into_iter-step-iterator.ensures.into_iter_gives.0) c.loop-step.invariant.right

pub returns-clause-legal : goal.returns-clause-legal
returns-clause-legal g c =
    let all = All-taken c.into_iter-step-iterator.result c.loop-step.yielded (c.next.new.self, (c.loop-step.step-iterator, c.loop-step.yielded_by, c.in-None.ensures.steps)) in
    subst (λ (steps : List Step). RunsLegally c.args.self.now steps c.loop-step.replies.items c.loop-step.self) (all ∙ c.into_iter-step-iterator.ensures.into_iter_gives.0) c.loop-step.invariant.legal
