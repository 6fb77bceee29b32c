-- A run goes on by a step.
use Rattle.std.proofs.Common.{◌≡◌, List, [], ◌∷◌, ◌++◌, refl, ap, ◌∙◌, subst}
use Rattle.std.specs.Iterator.{Yields}
use Rattle.std.specs.Vec.Iter.{into_iter_items, into_iter_steps}
use Rattle.std.specs.declared.vec.IntoIter.{IntoIter}
use Rattle.round_state.specs.EngineState.{EngineState}
use Rattle.round_state.specs.Legal.{State, Legal, LegalRun}
use Rattle.round_state.specs.Runs.{StepsLegally, RunsLegally}
use Rattle.round_state.specs.Steps.{StepsTo, RunsTo}
use Rattle.round_state.specs.declared.steps.Step.{Step}
use Rattle.round_state.specs.declared.steps.StepReply.{StepReply}

pub right_none : (old : EngineState) → RunsTo old [] [] old
right_none old = refl

pub right_more : (old mid new : EngineState) (steps : List Step) (replies : List StepReply) (step : Step) (reply : StepReply) → RunsTo old steps replies mid → StepsTo mid step reply new → RunsTo old (steps ++ step ∷ []) (replies ++ reply ∷ []) new
right_more old mid new [] [] step reply ran right = (new, subst (λ (engine : EngineState). StepsTo engine step reply new) ran right, refl)
right_more old mid new (s ∷ steps) (r ∷ replies) step reply ran right = (ran.0, ran.1, right_more ran.0 mid new steps replies step reply ran.2 right)
right_more old mid new [] (r ∷ replies) step reply ran right = absurd ran
right_more old mid new (s ∷ steps) [] step reply ran right = absurd ran

legal_more : (before mid after : State) (steps : List Step) (replies : List StepReply) (step : Step) (reply : StepReply) → LegalRun before steps replies mid → Legal mid step reply after → LegalRun before (steps ++ step ∷ []) (replies ++ reply ∷ []) after
legal_more before mid after [] [] step reply ran legal = (after, subst (λ (state : State). Legal state step reply after) ran legal, refl)
legal_more before mid after (s ∷ steps) (r ∷ replies) step reply ran legal = (ran.0, ran.1, legal_more ran.0 mid after steps replies step reply ran.2 legal)
legal_more before mid after [] (r ∷ replies) step reply ran legal = absurd ran
legal_more before mid after (s ∷ steps) [] step reply ran legal = absurd ran

pub runs_none : (old : EngineState) → RunsLegally old [] [] old
runs_none old before holds = (before, refl, holds)

pub runs_more : (old mid new : EngineState) (steps : List Step) (replies : List StepReply) (step : Step) (reply : StepReply) → RunsLegally old steps replies mid → StepsLegally mid step reply new → RunsLegally old (steps ++ step ∷ []) (replies ++ reply ∷ []) new
runs_more old mid new steps replies step reply ran stepped before holds =
    let first = ran before holds in
    let last = stepped first.0 first.2 in
    (last.0, legal_more before first.0 last.0 steps replies step reply first.1 last.1, last.2)

-- what the iterator of a list has given is a front of its items
pub taken_front : {X A : Type 0} (s : IntoIter X A) (xs : List X) (t : IntoIter X A) → Yields into_iter_steps s xs t → into_iter_items s ≡ xs ++ into_iter_items t
taken_front s [] t y = ap into_iter_items y
taken_front s (x ∷ xs) t y = y.1.0 ∙ ap (λ ys. x ∷ ys) (taken_front y.0 xs t y.2)
