-- Steps that were forced stay so as more is added, and what is forced then is logged behind them.
use Rattle.std.proofs.Common.{◌≡◌, ℕ, zero, suc, ◌<◌, List, [], ◌∷◌, ◌++◌, length, get_or, map, take, refl, sym, ap, subst, subst₂, ◌∙◌, inl, inr, arith, append-nil, append_assoc, length-append, All}
use Rattle.std.proofs.lemmas.Bool.{cases_lt}
use Rattle.std.proofs.lemmas.List.{get_or_append_left, take-append-le}
use Rattle.std.proofs.lemmas.List.Elements.{All-append, All-push, All-take, All-weaker}
use Rattle.txn.specs.declared.transactions.TxnId.{TxnId}
use Rattle.txn.specs.declared.transactions.Source.TheVariants.{By}
use Rattle.txn.specs.declared.choices.Arc.{Arc}
use Rattle.txn.specs.declared.choices.Arc.TheVariants.{Session, Read, Base, Taken}
use Rattle.txn.specs.declared.choices.Choice.{Choice}
use Rattle.txn.specs.declared.choices.ForceStep.{ForceStep}
use Rattle.txn.specs.declared.choices.Side.{Side}
use Rattle.txn.specs.declared.choices.Side.TheVariants.{First, Second}
use Rattle.txn.specs.Arcs.{start_of, end_of}
use Rattle.order_check.specs.declared.remainder.Parts.{Parts}
use Rattle.order_check.specs.Based.{Remains}
use Rattle.order_check.specs.Cycles.{IsArc, Sides, sides_after}
use Rattle.order_check.specs.Known.{IsChoice}
use Rattle.session_clocks.specs.Reach.{Reaches}
use Rattle.clock_choices.specs.declared.steps.Forced.{Forced}
use Rattle.clock_choices.specs.Closed.{IsPlain}
use Rattle.clock_choices.specs.Forcing.{ForcesOver, IsForcedOver, forced, unforced}
use Rattle.clock_choices.specs.Growth.{AreMore}
use Rattle.clock_choices.specs.Logging.{AreRight, HasRight, IsLogged, IsLoggedFrom, IsStepAfter, IsStepFrom}
use Rattle.clock_choices.specs.Nodes.{HaveMore, IsArcThere}
use Rattle.clock_choices.specs.Over.{IsOver}
use Rattle.clock_choices.specs.Steps.{bare, conclusion, conclusion_of, premise, sides_behind, sides_of, taken_arc}
use Rattle.clock_choices.proofs.FullLogs.{arc_with}
use Rattle.clock_choices.proofs.Growing.{choice_more, reads_base_more, reads_more, remains_more, writes_more}
use Rattle.clock_choices.proofs.Logged.{forces_new, map_push, sides_behind_both, sides_push, taken_is}
use Rattle.clock_choices.proofs.MoreNodes.{reaches_among, reaches_with_nodes}
use Rattle.clock_choices.proofs.Remaining.{reader_remains, writer_remains}
use Rattle.clock_choices.proofs.Settled.{take_all}
use Rattle.clock_choices.proofs.There.{remains_there}

-- right arcs stay right
arc_grows : (parts more : Parts) (taken : Sides) (arc : Arc) → AreMore parts more → IsArc parts taken arc → IsArc more taken arc
arc_grows parts more taken (Session from to) are right = (remains_more parts more from are right.0, remains_more parts more to are right.1, right.2, right.3)
arc_grows parts more taken (Read key from to) are right = (reads_more parts more to key (By from) are right.0, writes_more parts more from key are right.1)
arc_grows parts more taken (Base key from to) are right = (reads_base_more parts more from key are right.0, writes_more parts more to key are right.1, right.2)
arc_grows parts more taken (Taken from to) are right = right

arc_of_none : (parts : Parts) (taken : Sides) (arc : Arc) → IsArc parts [] arc → IsArc parts taken arc
arc_of_none parts taken (Session from to) right = right
arc_of_none parts taken (Read key from to) right = right
arc_of_none parts taken (Base key from to) right = right
arc_of_none parts taken (Taken from to) right = absurd (omega (arith, right.1))

right_grows : (parts more : Parts) (taken : Sides) (arcs : List Arc) → AreMore parts more → AreRight parts taken arcs → AreRight more taken arcs
right_grows parts more taken arcs are right = All-weaker (λ (arc : Arc). HasRight parts taken (start_of arc) (end_of arc)) (λ (arc : Arc). HasRight more taken (start_of arc) (end_of arc)) (λ arc one. (one.0, one.1, one.2, arc_grows parts more taken one.0 are one.3)) arcs right

pub right_with : (parts : Parts) (side : TxnId × TxnId) (taken : Sides) (arcs : List Arc) → AreRight parts taken arcs → AreRight parts (side ∷ taken) arcs
right_with parts side taken arcs right = All-weaker (λ (arc : Arc). HasRight parts taken (start_of arc) (end_of arc)) (λ (arc : Arc). HasRight parts (side ∷ taken) (start_of arc) (end_of arc)) (λ arc one. (one.0, one.1, one.2, arc_with parts side taken one.0 one.3)) arcs right

-- both ends of a side remain
pub side_remains : (parts : Parts) (choice : Choice) (side : Side) → IsChoice parts choice → Remains parts (conclusion_of choice side).0 × Remains parts (conclusion_of choice side).1
side_remains parts choice Second is = (reader_remains parts choice.reader choice.key (By choice.writer) is.reads, writer_remains parts choice.other choice.key is.other)
side_remains parts choice First is = (writer_remains parts choice.other choice.key is.other, writer_remains parts choice.writer choice.key is.written)

-- a step stays as more arcs stand behind
pub step_longer : (parts : Parts) (gone received : List ℕ) (arcs more : List Arc) (taken : Sides) (step : Forced) → IsStepFrom parts gone received arcs taken step → IsStepFrom parts gone received (arcs ++ more) taken step
step_longer parts gone received arcs more taken step is =
    let len = length-append arcs more in
    let within = is.within in
    let same : take step.arcs arcs ≡ take step.arcs (arcs ++ more) = sym (take-append-le step.arcs arcs more within) in
    record {
      choice_of = is.choice_of;
      within = omega (arith, len, within);
      right = subst (λ (some : List Arc). AreRight parts taken some) same is.right;
      ready = subst (λ (some : List Arc). Reaches gone received some (premise step).0 (premise step).1) same is.ready;
      new = λ reached. is.new (subst (λ (some : List Arc). Reaches gone received some (conclusion step).0 (conclusion step).1) (sym same) reached);
      sides = λ a b there. subst (λ (some : List Arc). Reaches gone received some a b) same (is.sides a b there);
    }

-- a step stays as transactions are added
step_grows : (parts more : Parts) (gone few received : List ℕ) (session count : ℕ) (arcs : List Arc) (before : List Forced) (step : Forced) → AreMore parts more → IsOver parts gone few → HaveMore few received session count → All (IsArcThere gone few) arcs
    → IsStepAfter parts gone few arcs before step → IsStepAfter more gone received arcs before step
step_grows parts more gone few received session count arcs before step are over nodes there is = record {
  choice_of = choice_more parts more step.choice are is.choice_of;
  within = is.within;
  right = right_grows parts more (sides_of before) (take step.arcs arcs) are is.right;
  ready = reaches_with_nodes gone few received session count nodes (take step.arcs arcs) is.ready;
  new = λ reached. is.new (reaches_among gone few received session count nodes (take step.arcs arcs) (All-take (IsArcThere gone few) step.arcs arcs there) reached
      (remains_there parts gone few over (conclusion step).1 (side_remains parts step.choice step.side is.choice_of).1)).0;
  sides = λ a b among. reaches_with_nodes gone few received session count nodes (take step.arcs arcs) (is.sides a b among);
}

-- the log of parts is one of more parts, with right arcs added
pub logged_linked : (parts more : Parts) (gone few received : List ℕ) (session count : ℕ) (arcs added : List Arc) (steps : List Forced) → AreMore parts more → IsOver parts gone few → HaveMore few received session count → All (IsArcThere gone few) arcs → All (IsArc more []) added
    → IsLogged parts gone few arcs steps → IsLogged more gone received (arcs ++ added) steps
logged_linked parts more gone few received session count arcs added steps are over nodes there right logged = record {
  right = All-append (λ (arc : Arc). HasRight more (sides_of steps) (start_of arc) (end_of arc)) arcs added (right_grows parts more (sides_of steps) arcs are logged.right)
      (All-weaker (IsArc more []) (λ (arc : Arc). HasRight more (sides_of steps) (start_of arc) (end_of arc)) (λ arc is. (arc, refl, refl, arc_of_none more (sides_of steps) arc is)) added right);
  each = λ i d within. step_longer more gone received arcs added (sides_of (take i steps)) (get_or steps i d) (step_grows parts more gone few received session count arcs (take i steps) (get_or steps i d) are over nodes there (logged.each i d within));
}

-- sides of one more step
sides_push_on : (start : Sides) (steps : List Forced) (step : Forced) → sides_behind start (steps ++ step ∷ []) ≡ conclusion step ∷ sides_behind start steps
sides_push_on start steps step = ap (λ (xs : List ForceStep). sides_after start xs) (map_push steps step) ∙ sides_push start (map bare steps) (bare step) ∙ ap (λ (x : TxnId × TxnId). x ∷ sides_behind start steps) (taken_is step.choice step.side)

-- one step more is logged
logged_push : (parts : Parts) (start : Sides) (gone received : List ℕ) (arcs : List Arc) (steps : List Forced) (step : Forced) → IsLoggedFrom parts start gone received arcs steps → IsPlain parts (sides_behind start steps) (Reaches gone received arcs) → IsForcedOver parts gone received arcs step
    → IsLoggedFrom parts start gone received (arcs ++ taken_arc step ∷ []) (steps ++ step ∷ [])
logged_push parts start gone received arcs steps step logged plain is = record { right = right; each = each }
  where
    right : AreRight parts (sides_behind start (steps ++ step ∷ [])) (arcs ++ taken_arc step ∷ [])
    right = subst (λ (taken : Sides). AreRight parts taken (arcs ++ taken_arc step ∷ [])) (sym (sides_push_on start steps step))
        (All-push (λ (arc : Arc). HasRight parts (conclusion step ∷ sides_behind start steps) (start_of arc) (end_of arc)) arcs (taken_arc step) (right_with parts (conclusion step) (sides_behind start steps) arcs logged.right) (taken_arc step, refl, refl, (0, (omega arith), refl)))

    last : IsStepFrom parts gone received (arcs ++ taken_arc step ∷ []) (sides_behind start steps) step
    last =
        let place = is.place in
        let len = length-append arcs (taken_arc step ∷ []) in
        let all : take step.arcs (arcs ++ taken_arc step ∷ []) ≡ arcs = take-append-le step.arcs arcs (taken_arc step ∷ []) (omega (arith, place)) ∙ take_all arcs step.arcs (omega (arith, place)) in
        record {
          choice_of = is.choice_of;
          within = omega (arith, place, len);
          right = subst (λ (some : List Arc). AreRight parts (sides_behind start steps) some) (sym all) logged.right;
          ready = subst (λ (some : List Arc). Reaches gone received some (premise step).0 (premise step).1) (sym all) is.ready;
          new = λ reached. is.new (subst (λ (some : List Arc). Reaches gone received some (conclusion step).0 (conclusion step).1) all reached);
          sides = λ a b there. subst (λ (some : List Arc). Reaches gone received some a b) (sym all) (plain.sides a b there);
        }

    each : (i : ℕ) (d : Forced) → i < length (steps ++ step ∷ []) → IsStepFrom parts gone received (arcs ++ taken_arc step ∷ []) (sides_behind start (take i (steps ++ step ∷ []))) (get_or (steps ++ step ∷ []) i d)
    each i d within = elim (cases_lt i (length steps)) [
      | inl front ↦ subst₂ (λ (before : List Forced) (one : Forced). IsStepFrom parts gone received (arcs ++ taken_arc step ∷ []) (sides_behind start before) one) (sym (take-append-le i steps (step ∷ []) (omega arith))) (sym (get_or_append_left steps (step ∷ []) d i front))
          (step_longer parts gone received arcs (taken_arc step ∷ []) (sides_behind start (take i steps)) (get_or steps i d) (logged.each i d front))
      | inr past ↦
          let len = length-append steps (step ∷ []) in
          let end : i ≡ length steps = omega (arith, past, within, len) in
          subst₂ (λ (before : List Forced) (one : Forced). IsStepFrom parts gone received (arcs ++ taken_arc step ∷ []) (sides_behind start before) one)
          (sym (take_all steps i past) ∙ sym (take-append-le i steps (step ∷ []) (omega (arith, end)))) (sym (last_at steps step i d end)) last
    ]
      where
        last_at : (xs : List Forced) (x : Forced) (i : ℕ) (d : Forced) → i ≡ length xs → get_or (xs ++ x ∷ []) i d ≡ x
        last_at [] x zero d end = refl
        last_at [] x (suc i) d end = absurd (omega arith)
        last_at (y ∷ xs) x zero d end = absurd (omega arith)
        last_at (y ∷ xs) x (suc i) d end = last_at xs x i d (omega arith)

-- what is forced is logged
pub logged_forces_from : (parts : Parts) (start : Sides) (gone received : List ℕ) (arcs closed : List Arc) (steps new : List Forced) → IsOver parts gone received → IsLoggedFrom parts start gone received arcs steps → IsPlain parts (sides_behind start steps) (Reaches gone received arcs) → ForcesOver parts gone received arcs [] closed new
    → IsLoggedFrom parts start gone received closed (steps ++ new)
logged_forces_from parts start gone received arcs closed steps new over logged plain unforced = subst (λ (some : List Forced). IsLoggedFrom parts start gone received arcs some) (sym (append-nil steps)) logged
logged_forces_from parts start gone received arcs closed steps new over logged plain (forced {between = between} {some = some} step before is) =
    let so_far = logged_forces_from parts start gone received arcs between steps some over logged plain before in
    let plain_on = (forces_new parts gone received over (sides_behind start steps) arcs between some plain before).1 in
    let sides : sides_behind start (steps ++ some) ≡ sides_behind (sides_behind start steps) some = sides_behind_both start steps some in
    subst (λ (all : List Forced). IsLoggedFrom parts start gone received (between ++ taken_arc step ∷ []) all) (append_assoc steps some (step ∷ []))
    (logged_push parts start gone received between (steps ++ some) step so_far (subst (λ (taken : Sides). IsPlain parts taken (Reaches gone received between)) (sym sides) plain_on) is)

pub logged_forces : (parts : Parts) (gone received : List ℕ) (arcs closed : List Arc) (steps new : List Forced) → IsOver parts gone received → IsLogged parts gone received arcs steps → IsPlain parts (sides_of steps) (Reaches gone received arcs) → ForcesOver parts gone received arcs [] closed new
    → IsLogged parts gone received closed (steps ++ new)
logged_forces parts gone received arcs closed steps new over logged plain forces = logged_forces_from parts [] gone received arcs closed steps new over logged plain forces
