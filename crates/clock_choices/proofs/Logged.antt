-- Sides that are forced are known, and each of them is new where those before it are taken.
use Rattle.std.proofs.Common.{◌≡◌, ◌⊎◌, ℕ, zero, suc, List, [], ◌∷◌, ◌++◌, map, refl, sym, ap, subst, ◌∙◌, inl, inr, arith, Contains}
use Rattle.std.proofs.lemmas.List.Elements.{All-push, Contains-push}
use Rattle.txn.specs.declared.transactions.TxnId.{TxnId}
use Rattle.txn.specs.declared.choices.Arc.{Arc}
use Rattle.txn.specs.declared.choices.Arc.TheVariants.{Session, Read, Base, Taken}
use Rattle.txn.specs.declared.choices.Choice.{Choice}
use Rattle.txn.specs.declared.choices.ForceStep.{ForceStep}
use Rattle.txn.specs.declared.choices.Side.{Side}
use Rattle.txn.specs.declared.choices.Side.TheVariants.{First, Second}
use Rattle.txn.specs.Arcs.{start_of, end_of}
use Rattle.order_check.specs.declared.remainder.Parts.{Parts}
use Rattle.order_check.specs.Cycles.{AreNew, IsArc, IsPath, Links, Sides, side_taken, sides_after}
use Rattle.order_check.specs.Known.{IsChoice, Known, forces_after, forces_before}
use Rattle.session_clocks.specs.Reach.{Reaches, by_session, by_arc, through}
use Rattle.clock_choices.specs.declared.steps.Forced.{Forced}
use Rattle.clock_choices.specs.Closed.{AreKnown, IsPlain}
use Rattle.clock_choices.specs.Forcing.{ForcesOver, forced, unforced}
use Rattle.clock_choices.specs.Over.{IsOver}
use Rattle.clock_choices.specs.Steps.{bare, conclusion, conclusion_of, premise_of, sides_behind, sides_of, taken_arc}
use Rattle.clock_choices.proofs.Closing.{reached_known}
use Rattle.clock_choices.proofs.Growths.{reaches_more}
use Rattle.clock_choices.proofs.There.{remains_there}

-- the side that a step takes
pub taken_is : (choice : Choice) (side : Side) → side_taken (record { choice = choice; side = side; cycle = [] }) ≡ conclusion_of choice side
taken_is choice First = refl
taken_is choice Second = refl

-- a side that is ruled out has the other one known
forced_known : (parts : Parts) (taken : Sides) (choice : Choice) (side : Side) → IsChoice parts choice → Known parts taken (premise_of choice side).0 (premise_of choice side).1 → Known parts taken (conclusion_of choice side).0 (conclusion_of choice side).1
forced_known parts taken choice First is known = forces_before choice is known
forced_known parts taken choice Second is known = forces_after choice is known

-- sides of steps behind others
sides_both : (taken : Sides) (steps more : List ForceStep) → sides_after taken (steps ++ more) ≡ sides_after (sides_after taken steps) more
sides_both taken [] more = refl
sides_both taken (step ∷ steps) more = sides_both (side_taken step ∷ taken) steps more

pub map_both : (steps more : List Forced) → map bare (steps ++ more) ≡ map bare steps ++ map bare more
map_both [] more = refl
map_both (step ∷ steps) more = ap (λ (rest : List ForceStep). bare step ∷ rest) (map_both steps more)

pub sides_behind_both : (start : Sides) (steps more : List Forced) → sides_behind start (steps ++ more) ≡ sides_behind (sides_behind start steps) more
sides_behind_both start steps more = ap (λ (xs : List ForceStep). sides_after start xs) (map_both steps more) ∙ sides_both start (map bare steps) (map bare more)

pub sides_of_both : (steps more : List Forced) → sides_of (steps ++ more) ≡ sides_after (sides_of steps) (map bare more)
sides_of_both steps more = sides_behind_both [] steps more

pub sides_push : (taken : Sides) (steps : List ForceStep) (step : ForceStep) → sides_after taken (steps ++ step ∷ []) ≡ side_taken step ∷ sides_after taken steps
sides_push taken [] step = refl
sides_push taken (first ∷ steps) step = sides_push (side_taken first ∷ taken) steps step

pub map_push : (steps : List Forced) (step : Forced) → map bare (steps ++ step ∷ []) ≡ map bare steps ++ bare step ∷ []
map_push [] step = refl
map_push (first ∷ steps) step = ap (λ (rest : List ForceStep). bare first ∷ rest) (map_push steps step)

pub first_or : {X : Type 0} (x : X) (xs : List X) (y : X) → Contains (x ∷ xs) y → (x ≡ y) ⊎ Contains xs y
first_or x xs y (zero, within, is) = inl is
first_or x xs y (suc k, within, is) = inr (k, (omega arith), is)

pub contains_behind : {X : Type 0} (x : X) (xs : List X) (y : X) → Contains xs y → Contains (x ∷ xs) y
contains_behind x xs y (k, within, is) = (suc k, (omega arith), is)

module _ (parts : Parts) (gone received : List ℕ) (over : IsOver parts gone received) where
  -- where right arcs lead, one comes
  module _ (taken : Sides) (arcs : List Arc) (plain : IsPlain parts taken (Reaches gone received arcs)) where
    arc_reached : (arc : Arc) → IsArc parts taken arc → Reaches gone received arcs (start_of arc) (end_of arc)
    arc_reached (Session from to) (first, second, same, below) = by_session from to (remains_there parts gone received over from first) (remains_there parts gone received over to second) same below
    arc_reached (Read key from to) (reads, writes) = plain.reads to from key reads writes
    arc_reached (Base key from to) (reads, writes, apart) = plain.base from to key reads writes apart
    arc_reached (Taken from to) there = plain.sides from to there

    path_reached : (start at : TxnId) (path : List Arc) (goal : TxnId) → Reaches gone received arcs start at → IsPath parts taken at path goal → Reaches gone received arcs start goal
    path_reached start at [] goal reached is = subst (λ (id : TxnId). Reaches gone received arcs start id) is reached
    path_reached start at (arc ∷ path) goal reached (begins, right, rest) =
        path_reached start (end_of arc) path goal (through start at (end_of arc) reached (subst (λ (id : TxnId). Reaches gone received arcs id (end_of arc)) begins (arc_reached arc right))) rest

    pub links_reached : (a b : TxnId) → Links parts taken a b → Reaches gone received arcs a b
    links_reached a b (arc, path, begins, right, rest) = path_reached a (end_of arc) path b (subst (λ (id : TxnId). Reaches gone received arcs id (end_of arc)) begins (arc_reached arc right)) rest

  -- what is forced from known arcs is known
  pub forces_known_from : (taken : Sides) (arcs : List Arc) (steps : List Forced) (more : List Arc) (all : List Forced) → AreKnown parts taken arcs → ForcesOver parts gone received arcs steps more all → AreKnown parts taken more
  forces_known_from taken arcs steps more all known unforced = known
  forces_known_from taken arcs steps more all known (forced {between = between} {some = some} step before is) =
      let so_far = forces_known_from taken arcs steps between some known before in
      let ready = reached_known parts taken gone received between over so_far is.ready in
      All-push (λ (arc : Arc). Known parts taken (start_of arc) (end_of arc)) between (taken_arc step) so_far (forced_known parts taken step.choice step.side is.choice_of ready)

  pub forces_known : (arcs : List Arc) (steps : List Forced) (more : List Arc) (all : List Forced) → AreKnown parts [] arcs → ForcesOver parts gone received arcs steps more all → AreKnown parts [] more
  forces_known arcs steps more all known forces = forces_known_from [] arcs steps more all known forces

  -- no less is reached
  pub forces_reach : (arcs : List Arc) (steps : List Forced) (more : List Arc) (all : List Forced) {a b : TxnId} → ForcesOver parts gone received arcs steps more all → Reaches gone received arcs a b → Reaches gone received more a b
  forces_reach arcs steps more all unforced reached = reached
  forces_reach arcs steps more all (forced {between = between} {some = some} step before is) reached = reaches_more gone received between (taken_arc step) (forces_reach arcs steps between some before reached)

  -- the last step is new, too
  new_push : (taken : Sides) (steps : List ForceStep) (step : ForceStep) → AreNew parts taken steps → ¬ Links parts (sides_after taken steps) (side_taken step).0 (side_taken step).1 → AreNew parts taken (steps ++ step ∷ [])
  new_push taken [] step new last = (last, tt)
  new_push taken (first ∷ steps) step (not, new) last = (not, new_push (side_taken first ∷ taken) steps step new last)

  -- from arcs that lead along all that is there from the start, and along the sides taken, each step is new, and they lead along its side then
  abbrev pub AreNewOver : Sides → List Arc → List Forced → Type 0
  AreNewOver taken more steps = AreNew parts taken (map bare steps) × IsPlain parts (sides_after taken (map bare steps)) (Reaches gone received more)

  pub forces_new : (taken : Sides) (arcs more : List Arc) (steps : List Forced) → IsPlain parts taken (Reaches gone received arcs) → ForcesOver parts gone received arcs [] more steps → AreNewOver taken more steps
  forces_new taken arcs more steps plain unforced = (tt, plain)
  forces_new taken arcs more steps plain (forced {between = between} {some = some} step before is) =
      let so_far = forces_new taken arcs between some plain before in
      let side = taken_is step.choice step.side in
      let not : ¬ Links parts (sides_after taken (map bare some)) (side_taken (bare step)).0 (side_taken (bare step)).1 =
      subst (λ (one : TxnId × TxnId). ¬ Links parts (sides_after taken (map bare some)) one.0 one.1) (sym side) (λ links. is.new (links_reached (sides_after taken (map bare some)) between so_far.1 (conclusion step).0 (conclusion step).1 links)) in
      let sides : sides_after taken (map bare (some ++ step ∷ [])) ≡ conclusion step ∷ sides_after taken (map bare some) =
      ap (λ (xs : List ForceStep). sides_after taken xs) (map_push some step) ∙ sides_push taken (map bare some) (bare step) ∙ ap (λ (one : TxnId × TxnId). one ∷ sides_after taken (map bare some)) side in (
        subst (λ (xs : List ForceStep). AreNew parts taken xs) (sym (map_push some step)) (new_push taken (map bare some) (bare step) so_far.0 not),
        subst (λ (xs : Sides). IsPlain parts xs (Reaches gone received (between ++ taken_arc step ∷ []))) (sym sides) record {
          reads = λ reader writer key reads writes. reaches_more gone received between (taken_arc step) (so_far.1.reads reader writer key reads writes);
          base = λ reader other key reads writes apart. reaches_more gone received between (taken_arc step) (so_far.1.base reader other key reads writes apart);
          sides = λ a b there. by_place between step (sides_after taken (map bare some)) (λ c d. so_far.1.sides c d) a b there;
        },
      )
    where
      by_place : (between : List Arc) (step : Forced) (some : Sides) → ((a b : TxnId) → Contains some (a, b) → Reaches gone received between a b) → (a b : TxnId) → Contains (conclusion step ∷ some) (a, b) → Reaches gone received (between ++ taken_arc step ∷ []) a b
      by_place between step some sides a b there = elim (first_or (conclusion step) some (a, b) there) [
        | inl same ↦ subst (λ (one : TxnId × TxnId). Reaches gone received (between ++ taken_arc step ∷ []) one.0 one.1) same (by_arc (taken_arc step) (Contains-push between (taken_arc step)))
        | inr before ↦ reaches_more gone received between (taken_arc step) (sides a b before)
      ]
