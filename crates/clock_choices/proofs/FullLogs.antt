-- Steps that were forced have cycles, with which they are a full log.
use Rattle.std.proofs.Common.{◌≡◌, ℕ, zero, suc, ◌<◌, List, [], ◌∷◌, ◌++◌, length, get_or, map, take, refl, sym, ap, subst, ◌∙◌, arith, Contains}
use Rattle.std.specs.Prelude.{⊤}
use Rattle.std.proofs.lemmas.List.{get_or-take, length-take}
use Rattle.std.proofs.lemmas.List.Elements.{All-contains}
use Rattle.txn.specs.declared.transactions.TxnId.{TxnId}
use Rattle.txn.specs.declared.choices.Arc.{Arc}
use Rattle.txn.specs.declared.choices.Arc.TheVariants.{Session, Read, Base, Taken}
use Rattle.txn.specs.declared.choices.Choice.{Choice}
use Rattle.txn.specs.declared.choices.ForceStep.{ForceStep}
use Rattle.txn.specs.declared.choices.Side.{Side}
use Rattle.txn.specs.declared.choices.Side.TheVariants.{First, Second}
use Rattle.txn.specs.Arcs.{start_of, end_of}
use Rattle.order_check.specs.declared.remainder.Parts.{Parts}
use Rattle.order_check.specs.Cycles.{AreForced, IsArc, IsCycle, IsForced, IsFullLog, IsFullLogFrom, IsPath, Links, Sides, TakeEachOnce, side_not_taken, side_taken, sides_after}
use Rattle.order_check.specs.Known.{Known}
use Rattle.session_clocks.specs.Reach.{Reaches, by_session, by_arc, through}
use Rattle.clock_choices.specs.declared.steps.Forced.{Forced}
use Rattle.clock_choices.specs.Held.{IsHeld, IsHeldFrom}
use Rattle.clock_choices.specs.Logging.{AreRight, AreStepsFrom, HasRight, IsLoggedFrom, IsStepFrom}
use Rattle.clock_choices.specs.Over.{IsOver}
use Rattle.clock_choices.specs.SaturatedState.{sides_logged}
use Rattle.clock_choices.specs.Steps.{bare, conclusion, conclusion_of, premise, premise_of, sides_behind}
use Rattle.clock_choices.proofs.Closing.{reached_known}
use Rattle.clock_choices.proofs.Logged.{links_reached, taken_is}
use Rattle.clock_choices.proofs.There.{there_remains}

-- paths, one behind another
path_on : (parts : Parts) (sides : Sides) (at : TxnId) (path : List Arc) (mid : TxnId) (more : List Arc) (goal : TxnId) → IsPath parts sides at path mid → IsPath parts sides mid more goal → IsPath parts sides at (path ++ more) goal
path_on parts sides at [] mid more goal is on = subst (λ (id : TxnId). IsPath parts sides id more goal) (sym is) on
path_on parts sides at (arc ∷ path) mid more goal (begins, right, rest) on = (begins, right, path_on parts sides (end_of arc) path mid more goal rest on)

pub links_on : (parts : Parts) (sides : Sides) (a b c : TxnId) → Links parts sides a b → Links parts sides b c → Links parts sides a c
links_on parts sides a b c (arc, path, begins, right, rest) (other, more, starts, fits, on) =
    (arc, path ++ other ∷ more, begins, right, path_on parts sides (end_of arc) path b (other ∷ more) c rest (starts, fits, on))

-- where arcs are right, one comes along right arcs
pub reached_links : (parts : Parts) (sides : Sides) (gone received : List ℕ) (arcs : List Arc) → IsOver parts gone received → AreRight parts sides arcs → {a b : TxnId} → Reaches gone received arcs a b → Links parts sides a b
reached_links parts sides gone received arcs over right (by_session a b first second same below) = (Session a b, [], refl, (there_remains parts gone received over a first, there_remains parts gone received over b second, same, below), refl)
reached_links parts sides gone received arcs over right (by_arc arc there) =
    let one = All-contains (λ (x : Arc). HasRight parts sides (start_of x) (end_of x)) arcs arc right there in
    (one.0, [], one.1, one.3, one.2)
reached_links parts sides gone received arcs over right (through a b c first second) = links_on parts sides a b c (reached_links parts sides gone received arcs over right first) (reached_links parts sides gone received arcs over right second)

-- with one more side what is right stays so
pub arc_with : (parts : Parts) (side : TxnId × TxnId) (sides : Sides) (arc : Arc) → IsArc parts sides arc → IsArc parts (side ∷ sides) arc
arc_with parts side sides (Session from to) is = is
arc_with parts side sides (Read key from to) is = is
arc_with parts side sides (Base key from to) is = is
arc_with parts side sides (Taken from to) (k, within, is) = (suc k, (omega arith), is)

pub path_with : (parts : Parts) (side : TxnId × TxnId) (sides : Sides) (at : TxnId) (path : List Arc) (goal : TxnId) → IsPath parts sides at path goal → IsPath parts (side ∷ sides) at path goal
path_with parts side sides at [] goal is = is
path_with parts side sides at (arc ∷ path) goal (begins, right, rest) = (begins, arc_with parts side sides arc right, path_with parts side sides (end_of arc) path goal rest)

-- the arc back makes a cycle
pub cycle_back : (parts : Parts) (sides : Sides) (a b : TxnId) (links : Links parts sides a b) → IsCycle parts ((b, a) ∷ sides) (Taken b a ∷ links.0 ∷ links.1)
cycle_back parts sides a b (arc, path, begins, right, rest) = (refl, (0, (omega arith), refl), (begins, arc_with parts (b, a) sides arc right, path_with parts (b, a) sides (end_of arc) path b rest))

-- the side that is ruled out leads back along the premise
pub not_taken_is : (choice : Choice) (side : Side) (cycle : List Arc) → side_not_taken (record { choice = choice; side = side; cycle = cycle }) ≡ ((premise_of choice side).1, (premise_of choice side).0)
not_taken_is choice First cycle = refl
not_taken_is choice Second cycle = refl

-- the same steps, with cycles or without
abbrev pub AreSameSteps : List Forced → List ForceStep → Type 0
AreSameSteps [] [] = ⊤
AreSameSteps [] (one ∷ whole) = ⊥
AreSameSteps (step ∷ steps) [] = ⊥
AreSameSteps (step ∷ steps) (one ∷ whole) = (side_taken one ≡ conclusion step) × (one.choice ≡ step.choice) × (one.side ≡ step.side) × AreSameSteps steps whole

same_sides : (taken : Sides) (steps : List Forced) (whole : List ForceStep) → AreSameSteps steps whole → sides_after taken whole ≡ sides_after taken (map bare steps)
same_sides taken [] [] same = refl
same_sides taken [] (one ∷ whole) same = absurd same
same_sides taken (step ∷ steps) [] same = absurd same
same_sides taken (step ∷ steps) (one ∷ whole) (side, choice, way, rest) =
    ap (λ (x : TxnId × TxnId). sides_after (x ∷ taken) whole) (side ∙ sym (taken_is step.choice step.side)) ∙ same_sides (side_taken (bare step) ∷ taken) steps whole rest

pub same_logged : (steps : List Forced) (whole : List ForceStep) → AreSameSteps steps whole → sides_logged whole ≡ sides_logged (map bare steps)
same_logged [] [] same = refl
same_logged [] (one ∷ whole) same = absurd same
same_logged (step ∷ steps) [] same = absurd same
same_logged (step ∷ steps) (one ∷ whole) (side, choice, way, rest) = ap (λ (x : Choice). (x, one.side) ∷ sides_logged whole) choice ∙ ap (λ (x : Side). (step.choice, x) ∷ sides_logged whole) way ∙ ap (λ (xs : List (Choice × Side)). (step.choice, step.side) ∷ xs) (same_logged steps whole rest)

-- the side at a place
same_at : (steps : List Forced) (whole : List ForceStep) (i : ℕ) (d : Forced) (e : ForceStep) → AreSameSteps steps whole → i < length whole → (i < length steps) × (side_taken (get_or whole i e) ≡ conclusion (get_or steps i d))
same_at [] [] i d e same within = absurd (omega arith)
same_at [] (one ∷ whole) i d e same within = absurd same
same_at (step ∷ steps) [] i d e same within = absurd same
same_at (step ∷ steps) (one ∷ whole) zero d e (side, choice, way, rest) within = ((omega arith), side)
same_at (step ∷ steps) (one ∷ whole) (suc i) d e (side, choice, way, rest) within = let found = same_at steps whole i d e rest (omega arith) in ((let inside = found.0 in omega (arith, inside)), found.1)

-- a step's side is among those taken
pub side_among : (steps : List Forced) (taken : Sides) (i : ℕ) (d : Forced) → i < length steps → Contains (sides_after taken (map bare steps)) (conclusion (get_or steps i d))
side_among [] taken i d within = absurd (omega arith)
side_among (step ∷ steps) taken zero d within = stays steps (side_taken (bare step) ∷ taken) (conclusion step) (0, (omega arith), taken_is step.choice step.side)
  where
    stays : (steps : List Forced) (taken : Sides) (side : TxnId × TxnId) → Contains taken side → Contains (sides_after taken (map bare steps)) side
    stays [] taken side there = there
    stays (one ∷ steps) taken side (k, within, is) = stays steps (side_taken (bare one) ∷ taken) side (suc k, (omega arith), is)
side_among (step ∷ steps) taken (suc i) d within = side_among steps (side_taken (bare step) ∷ taken) i d (omega arith)

module _ (parts : Parts) (gone received : List ℕ) (arcs : List Arc) (over : IsOver parts gone received) where
  -- each step has its cycle
  cycle_for : (taken : Sides) (step : Forced) → IsStepFrom parts gone received arcs taken step → (cycle : List Arc) × IsForced parts taken (record { choice = step.choice; side = step.side; cycle = cycle })
  cycle_for taken step is =
      let links = reached_links parts taken gone received (take step.arcs arcs) over is.right is.ready in
      let cycle : List Arc = Taken (premise step).1 (premise step).0 ∷ links.0 ∷ links.1 in
      (cycle, (is.choice_of, subst (λ (side : TxnId × TxnId). IsCycle parts (side ∷ taken) cycle) (sym (not_taken_is step.choice step.side cycle)) (cycle_back parts taken (premise step).0 (premise step).1 links)))

  with_cycles : (taken : Sides) (steps : List Forced) → AreStepsFrom parts taken gone received arcs steps → (whole : List ForceStep) × AreSameSteps steps whole × AreForced parts taken whole
  with_cycles taken [] each = ([], tt, tt)
  with_cycles taken (step ∷ steps) each =
      let found = cycle_for taken step (each 0 step (omega arith)) in
      let one : ForceStep = record { choice = step.choice; side = step.side; cycle = found.0 } in
      let side : side_taken one ≡ conclusion step = side_is step.choice step.side found.0 in
      let rest = with_cycles (side_taken (bare step) ∷ taken) steps (λ i d within. each (suc i) d (omega arith)) in
      (one ∷ rest.0, (side, refl, refl, rest.1), (found.1, subst (λ (x : TxnId × TxnId). AreForced parts (x ∷ taken) rest.0) (taken_is step.choice step.side ∙ sym side) rest.2))
    where
      side_is : (choice : Choice) (side : Side) (cycle : List Arc) → side_taken (record { choice = choice; side = side; cycle = cycle }) ≡ conclusion_of choice side
      side_is choice First cycle = refl
      side_is choice Second cycle = refl

  pub full_log_from : (taken start : Sides) (steps : List Forced) → IsHeldFrom parts taken start gone received arcs steps → (whole : List ForceStep) × (sides_logged whole ≡ sides_logged (map bare steps)) × IsFullLogFrom parts taken start whole
  full_log_from taken start steps held = (
    whole,
    same_logged steps whole same,
    record {
      forced = found.2;
      once = once;
      known = λ i e within.
          let at = same_at steps whole i none e same within in
          let side = conclusion (get_or steps i none) in
          subst (λ (x : TxnId × TxnId). Known parts taken x.0 x.1) (sym at.1)
          (reached_known parts taken gone received arcs over held.known (let plain = held.plain in plain.sides side.0 side.1 (side_among steps start i none at.0)));
      after = λ choice is links. reached choice.reader choice.other ((held.closed choice is).behind (linked choice.writer choice.other links));
      before = λ choice is links. reached choice.other choice.writer ((held.closed choice is).before (linked choice.other choice.reader links));
    },
  )
    where
      logged : IsLoggedFrom parts start gone received arcs steps
      logged = held.logged

      none : Forced
      none = record { choice = record { reader = no_id; key = 0; writer = no_id; other = no_id }; side = First; arcs = 0 }
        where
          no_id : TxnId
          no_id = record { session = 0; number = 0 }

      found : (whole : List ForceStep) × AreSameSteps steps whole × AreForced parts start whole
      found = with_cycles start steps logged.each

      whole : List ForceStep
      whole = found.0

      same : AreSameSteps steps whole
      same = found.1

      sides : sides_after start whole ≡ sides_behind start steps
      sides = same_sides start steps whole same

      linked : (a b : TxnId) → Links parts (sides_after start whole) a b → Reaches gone received arcs a b
      linked a b links = links_reached parts gone received over (sides_behind start steps) arcs held.plain a b (subst (λ (xs : Sides). Links parts xs a b) sides links)

      reached : (a b : TxnId) → Reaches gone received arcs a b → Links parts (sides_after start whole) a b
      reached a b is = subst (λ (xs : Sides). Links parts xs a b) (sym sides) (reached_links parts (sides_behind start steps) gone received arcs over logged.right is)

      once : TakeEachOnce whole
      once i j e less within =
          let first = same_at steps whole i none e same (omega arith) in
          let second = same_at steps whole j none e same within in
          let step = logged.each j none second.0 in
          let side = conclusion (get_or steps i none) in
          let was : Contains (sides_behind start (take j steps)) side = subst (λ (s : Forced). Contains (sides_behind start (take j steps)) (conclusion s)) (get_or-take j steps i none less) (side_among (take j steps) start i none (let len = length-take j steps in let inside = second.0 in omega (arith, less, len, inside))) in
          λ equal. step.new (subst (λ (x : TxnId × TxnId). Reaches gone received (take (get_or steps j none).arcs arcs) x.0 x.1) (sym first.1 ∙ equal ∙ second.1) (step.sides side.0 side.1 was))

  pub full_log : (steps : List Forced) → IsHeld parts gone received arcs steps → (whole : List ForceStep) × (sides_logged whole ≡ sides_logged (map bare steps)) × IsFullLog parts whole
  full_log steps held = full_log_from [] [] steps held
