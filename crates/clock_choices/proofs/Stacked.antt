-- Sides that are assumed one after another, and the relation with the last.
use Rattle.std.proofs.Common.{◌≡◌, ◌≢◌, ℕ, zero, suc, ◌+◌, ◌-◌, List, [], ◌∷◌, ◌++◌, ◌<◌, length, get_or, drop, map, take, Option, Some, None, refl, sym, ap, ◌∙◌, subst, subst₂, inl, inr, arith, Contains}
use Rattle.std.proofs.lemmas.List.{get_or_default, take_all}
use Rattle.std.specs.List.{slice_get}
use Rattle.std.specs.Option.{option_to_list, MatchOption}
use Rattle.std.specs.Prelude.{◌↔◌}
use Rattle.txn.specs.declared.transactions.TxnId.{TxnId}
use Rattle.txn.specs.declared.choices.Arc.{Arc}
use Rattle.txn.specs.declared.choices.Choice.{Choice}
use Rattle.txn.specs.declared.choices.ForceStep.{ForceStep}
use Rattle.txn.specs.declared.choices.Side.{Side}
use Rattle.txn.specs.declared.choices.Side.TheVariants.{First, Second}
use Rattle.order_check.specs.declared.remainder.Parts.{Parts}
use Rattle.order_check.specs.Cycles.{AreNew, IsForced, Sides, side_taken, sides_after}
use Rattle.order_check.specs.Known.{IsChoice, Known}
use Rattle.session_clocks.specs.Graphs.{GraphState, back_to, last_mark, where_marked}
use Rattle.session_clocks.specs.Reach.{Reaches}
use Rattle.clock_choices.specs.declared.branch.Top.{Top}
use Rattle.clock_choices.specs.declared.steps.Forced.{Forced}
use Rattle.clock_choices.specs.BranchState.{AreFullFrom, BranchState, Level, all_taken, arc_of, assumed, last_steps, taken_before}
use Rattle.clock_choices.specs.Closed.{IsPlain}
use Rattle.clock_choices.specs.Held.{IsHeldFrom}
use Rattle.clock_choices.specs.Linking.{AreNodesOf}
use Rattle.clock_choices.specs.Logging.{IsStepFrom}
use Rattle.clock_choices.specs.Stacks.{AreStacked, IsMoreBy, IsRelationAt, IsSeen, levels_of, stack_onto, start_of_last, steps_of_last}
use Rattle.clock_choices.specs.Steps.{bare, conclusion_of, sides_behind}
use Rattle.clock_choices.proofs.Closing.{closed_reaches_known_is}
use Rattle.clock_choices.proofs.Cyclings.{cycle_logged, length_bare, logged_at}
use Rattle.clock_choices.proofs.FullLogs.{full_log_from}
use Rattle.clock_choices.proofs.Logged.{contains_behind, first_or}
use Rattle.clock_choices.proofs.There.{remains_there}

-- one more at the end
pub stack_push : (stack tops : List Top) (top : Top) → stack_onto stack (tops ++ top ∷ []) ≡ top ∷ stack_onto stack tops
stack_push stack [] top = refl
stack_push stack (t ∷ tops) top = stack_push (t ∷ stack) tops top

stack_length : (stack tops : List Top) → length (stack_onto stack tops) ≡ length stack + length tops
stack_length stack [] = omega arith
stack_length stack (t ∷ tops) = let more = stack_length (t ∷ stack) tops in omega arith

levels_length : (stack : List Top) → length (levels_of stack) ≡ length stack
levels_length [] = refl
levels_length (top ∷ stack) = ap suc (levels_length stack)

pub depth_of : (tops : List Top) → length (levels_of (stack_onto [] tops)) ≡ length tops
depth_of tops = let first = levels_length (stack_onto [] tops) in let second = stack_length [] tops in omega (arith, first, second)

-- what contracts see of the last side
pub last_bare : (log : List Forced) (stack : List Top) → last_steps (map bare log) (levels_of stack) ≡ map bare (steps_of_last log stack)
last_bare log [] = refl
last_bare log (top ∷ stack) = refl

pub before_is : (log : List Forced) (stack : List Top) → taken_before (map bare log) (levels_of stack) ≡ start_of_last log stack
before_is log [] = refl
before_is log (top ∷ stack) = refl

pub taken_all : (log : List Forced) (stack : List Top) → all_taken (map bare log) (levels_of stack) ≡ sides_behind (start_of_last log stack) (steps_of_last log stack)
taken_all log [] = refl
taken_all log (top ∷ stack) = refl

-- the arc of a side
pub arc_same : (choice : Choice) (side : Side) → conclusion_of choice side ≡ arc_of choice side
arc_same choice First = refl
arc_same choice Second = refl

-- what is assumed is taken
assumed_taken : (log : List ForceStep) (levels : List Level) (side : TxnId × TxnId) → Contains (assumed levels) side → Contains (all_taken log levels) side
assumed_taken log [] side there = absurd (omega (arith, there.1))
assumed_taken log (level ∷ levels) side there = stays level.steps (arc_of level.choice level.side ∷ all_taken log levels) (elim (first_or (arc_of level.choice level.side) (assumed levels) side there) [
  | inl same ↦ (0, (omega arith), same)
  | inr before ↦ contains_behind (arc_of level.choice level.side) (all_taken log levels) side (assumed_taken log levels side before)
])
  where
    stays : (steps : List ForceStep) (sides : Sides) → Contains sides side → Contains (sides_after sides steps) side
    stays [] sides there = there
    stays (step ∷ steps) sides there = stays steps (side_taken step ∷ sides) (contains_behind (side_taken step) sides side there)

module _ (parts : Parts) (log : List Forced) (stack : List Top) (graph : GraphState) (relation : IsRelationAt parts log stack graph) where
  -- the relation is exact
  pub at_exact : (a b : TxnId) → Reaches graph.gone graph.received graph.arcs a b ↔ Known parts (assumed (levels_of stack)) a b
  at_exact a b = closed_reaches_known_is parts (assumed (levels_of stack)) graph.gone graph.received graph.arcs relation.over relation.known plain relation.closed a b
    where
      plain : IsPlain parts (assumed (levels_of stack)) (Reaches graph.gone graph.received graph.arcs)
      plain =
          let was = relation.plain in
          record {
            reads = was.reads;
            base = was.base;
            sides = λ c d there. was.sides c d (subst (λ (sides : Sides). Contains sides (c, d)) (taken_all log stack) (assumed_taken (map bare log) (levels_of stack) (c, d) there));
          }

  pub at_nodes : AreNodesOf parts graph.gone graph.received
  at_nodes = record { sessions = relation.width; there = λ id remains. remains_there parts graph.gone graph.received relation.over id remains }

  -- the steps of the last side are all that is forced
  pub at_full : AreFullFrom parts (assumed (levels_of stack)) (start_of_last log stack) (map bare (steps_of_last log stack))
  at_full = full_log_from parts graph.gone graph.received graph.arcs relation.over (assumed (levels_of stack)) (start_of_last log stack) (steps_of_last log stack) relation

-- the relation with one more side
module _ (parts : Parts) (log : List Forced) (stack : List Top) (old new : GraphState) (top : Top) (more : IsMoreBy parts old new top.assumed.choice top.assumed.side top.steps.items) (relation : IsRelationAt parts log stack old) where
  abbrev side : TxnId × TxnId
  side = arc_of top.assumed.choice top.assumed.side

  pub at_more : IsRelationAt parts log (top ∷ stack) new
  at_more = subst (λ (sides : Sides). IsHeldFrom parts (assumed (levels_of (top ∷ stack))) (side ∷ sides) new.gone new.received new.arcs top.steps.items) (sym (taken_all log stack)) (more (assumed (levels_of stack)) (start_of_last log stack) (steps_of_last log stack) relation).0

  -- its steps are new
  pub at_new : AreNew parts (side ∷ all_taken (map bare log) (levels_of stack)) (map bare top.steps.items)
  at_new = subst (λ (sides : Sides). AreNew parts (side ∷ sides) (map bare top.steps.items)) (sym (taken_all log stack)) (more (assumed (levels_of stack)) (start_of_last log stack) (steps_of_last log stack) relation).1

-- the last one, and those in front of it
split_at : (tops : List Top) (k : ℕ) (top : Top) → length tops ≡ suc k → slice_get tops k ≡ Some top → (front : List Top) × (tops ≡ front ++ top ∷ [])
split_at [] k top e h = absurd (omega arith)
split_at (x ∷ []) zero top e h = let same : x ≡ top = cc in ([], ap (λ y. y ∷ []) same)
split_at (x ∷ []) (suc k) top e h = absurd (omega arith)
split_at (x ∷ y ∷ tops) zero top e h = absurd (omega arith)
split_at (x ∷ y ∷ tops) (suc k) top e h = let rest = split_at (y ∷ tops) k top (omega arith) h in (x ∷ rest.0, ap (λ xs. x ∷ xs) rest.1)

pub split_last : (tops : List Top) (top : Top) → slice_get tops (length tops - 1) ≡ Some top → (front : List Top) × (tops ≡ front ++ top ∷ [])
split_last [] top h = absurd cc
split_last (x ∷ tops) top h = split_at (x ∷ tops) (length (x ∷ tops) - 1) top (omega arith) h

pub last_steps_of : (log : List Forced) (tops : List Top) (top : Top) → slice_get tops (length tops - 1) ≡ Some top → steps_of_last log (stack_onto [] tops) ≡ top.steps.items
last_steps_of log tops top h =
    let split = split_last tops top h in
    ap (λ (stack : List Top). steps_of_last log stack) (ap (λ (tops : List Top). stack_onto [] tops) split.1 ∙ stack_push [] split.0 top)

pub none_last : (tops : List Top) → slice_get tops (length tops - 1) ≡ None → tops ≡ []
none_last [] h = refl
none_last (x ∷ tops) h = absurd (there (x ∷ tops) (length (x ∷ tops) - 1) (omega arith) h)
  where
    there : (tops : List Top) (k : ℕ) → k < length tops → slice_get tops k ≡ None → ⊥
    there [] k within is = omega arith
    there (y ∷ tops) zero within is = cc
    there (y ∷ tops) (suc k) within is = there tops k (omega arith) is

pub steps_of_same : (log own_log : List Forced) (tops own_tops : List Top) (own : List Forced) → own ≡ steps_of_last own_log (stack_onto [] own_tops) → own_log ≡ log → own_tops ≡ tops → own ≡ steps_of_last log (stack_onto [] tops)
steps_of_same log own_log tops own_tops own is same_log same_tops = is ∙ ap (λ (some : List Forced). steps_of_last some (stack_onto [] own_tops)) same_log ∙ ap (λ (some : List Top). steps_of_last log (stack_onto [] some)) same_tops

-- without the last
pub stack_back : (old new : List Top) (last : Option Top) (n m : ℕ) → n ≡ length old → MatchOption last ((n ≡ 0) × (m ≡ 0)) (λ x. m + 1 ≡ n) → old ≡ new ++ option_to_list last → levels_of (stack_onto [] old) ≢ [] → stack_onto [] new ≡ drop 1 (stack_onto [] old)
stack_back [] new None n m e cases items some = absurd (some refl)
stack_back (t ∷ old) new None n m e cases items some = let none = cases.0 in absurd (omega arith)
stack_back old new (Some top) n m e cases items some = sym (ap (λ (stack : List Top). drop 1 stack) (ap (λ (tops : List Top). stack_onto [] tops) items ∙ stack_push [] new top))

-- the relation of the last side
pub stacked_here : (parts : Parts) (ids : List TxnId) (log : List Forced) (stack : List Top) (graph : GraphState) → AreStacked parts ids log stack graph → IsRelationAt parts log stack graph
stacked_here parts ids log [] graph h = h
stacked_here parts ids log (top ∷ stack) graph h = h.0

abbrev pub with_arcs : GraphState → List Arc → GraphState
with_arcs graph arcs = record { gone = graph.gone; received = graph.received; arcs = arcs; marks = graph.marks }

-- a mark says nothing of the relation
abbrev pub with_marks : GraphState → List ℕ → GraphState
with_marks graph marks = record { gone = graph.gone; received = graph.received; arcs = graph.arcs; marks = marks }

-- where a mark was set, and what leaves it as it is
pub last_of_marked : (old new : GraphState) → new ≡ with_marks old (length old.arcs ∷ old.marks) → last_mark new ≡ Some old
last_of_marked old new is = ap (λ (g : GraphState). last_mark g) is ∙ ap (λ (arcs : List Arc). Some (with_arcs old arcs)) (take_all (length old.arcs) old.arcs (omega arith))

marks_there : (marks : List ℕ) (graph before : GraphState) → where_marked marks graph ≡ Some before → marks ≢ []
marks_there [] graph before is e = absurd cc
marks_there (mark ∷ marks) graph before is e = absurd cc

pub marked_there : (graph before : GraphState) → last_mark graph ≡ Some before → graph.marks ≢ []
marked_there graph before is = marks_there graph.marks (back_to graph graph.marks) before is

back_there : (marks : List ℕ) (graph before : GraphState) → where_marked marks graph ≡ Some before → graph ≡ before
back_there [] graph before is = absurd cc
back_there (mark ∷ marks) graph before is = cc

back_is : (graph before : GraphState) → last_mark graph ≡ Some before → back_to graph graph.marks ≡ before
back_is graph before is = back_there graph.marks (back_to graph graph.marks) before is

-- with one more side
module _ (parts : Parts) (ids : List TxnId) (log : List Forced) (stack : List Top) (old marked new : GraphState) (top : Top) (h : AreStacked parts ids log stack old) (is : marked ≡ with_marks old (length old.arcs ∷ old.marks)) (more : IsMoreBy parts marked new top.assumed.choice top.assumed.side top.steps.items) where
  here : IsRelationAt parts log stack marked
  here = subst (λ (g : GraphState). IsRelationAt parts log stack g) (sym is) (stacked_here parts ids log stack old h)

  pub stacked_more : last_mark new ≡ last_mark marked → IsSeen parts ids old top.assumed.seen → IsChoice parts top.assumed.choice → AreStacked parts ids log (top ∷ stack) new
  stacked_more mark seen chosen = (at_more parts log stack marked new top more here, (old, mark ∙ last_of_marked old marked is, h, seen), chosen)

  pub stacked_new : AreNew parts (arc_of top.assumed.choice top.assumed.side ∷ all_taken (map bare log) (levels_of stack)) (map bare top.steps.items)
  stacked_new = at_new parts log stack marked new top more here

-- with one side less
pub stacked_marks : (parts : Parts) (ids : List TxnId) (log : List Forced) (stack : List Top) (graph : GraphState) → levels_of stack ≢ [] → AreStacked parts ids log stack graph → graph.marks ≢ []
stacked_marks parts ids log [] graph some h = absurd (some refl)
stacked_marks parts ids log (top ∷ stack) graph some h = marked_there graph h.1.0 h.1.1

pub stacked_less : (parts : Parts) (ids : List TxnId) (log : List Forced) (stack : List Top) (graph new : GraphState) → levels_of stack ≢ [] → AreStacked parts ids log stack graph → new ≡ back_to graph graph.marks → AreStacked parts ids log (drop 1 stack) new
stacked_less parts ids log [] graph new some h is = absurd (some refl)
stacked_less parts ids log (top ∷ stack) graph new some h is = subst (λ (g : GraphState). AreStacked parts ids log stack g) (sym (is ∙ back_is graph h.1.0 h.1.1)) h.1.2

pub graph_again : (old marked left new : GraphState) → marked ≡ with_marks old (length old.arcs ∷ old.marks) → last_mark left ≡ last_mark marked → new ≡ back_to left left.marks → new ≡ old
graph_again old marked left new is mark back = back ∙ back_is left old (mark ∙ last_of_marked old marked is)

-- states of branches
abbrev pub state_of : Parts → List Forced → List Top → BranchState
state_of parts log stack = record { parts = parts; log = map bare log; levels = levels_of stack }

abbrev pub state_with : Level → BranchState → BranchState
state_with level state = record { parts = state.parts; log = state.log; levels = level ∷ state.levels }

abbrev pub state_back : BranchState → BranchState
state_back state = record { parts = state.parts; log = state.log; levels = drop 1 state.levels }

pub back_one : (parts : Parts) (log : List Forced) (stack : List Top) → state_of parts log (drop 1 stack) ≡ state_back (state_of parts log stack)
back_one parts log [] = refl
back_one parts log (top ∷ stack) = refl

-- the step at a place of the last side, and its cycle
module _ (parts : Parts) (log : List Forced) (stack : List Top) (state : BranchState) (seen : state_of parts log stack ≡ state) (place : ℕ) (inside : place < length (last_steps state.log state.levels)) (own : List Forced) (d : Forced) (is : own ≡ steps_of_last log stack) where
  abbrev pub step : Forced
  step = get_or own place d

  same : map bare (steps_of_last log stack) ≡ last_steps state.log state.levels
  same = sym (last_bare log stack) ∙ ap (λ (b : BranchState). last_steps b.log b.levels) seen

  within : place < length (steps_of_last log stack)
  within = let len = ap (λ (xs : List ForceStep). length xs) same in let bare_len = length_bare (steps_of_last log stack) in omega (arith, len, bare_len, inside)

  at : step ≡ get_or (steps_of_last log stack) place step
  at = ap (λ (xs : List Forced). get_or xs place d) is ∙ get_or_default (steps_of_last log stack) place d step within

  pub step_at : (graph : GraphState) → IsRelationAt parts log stack graph → IsStepFrom parts graph.gone graph.received graph.arcs (sides_behind (start_of_last log stack) (take place (steps_of_last log stack))) step
  step_at graph relation = (logged_at parts (start_of_last log stack) graph.gone graph.received graph.arcs (steps_of_last log stack) (last_steps state.log state.levels) place step same inside at relation.logged).1

  pub cycle_at : (cycle : List Arc) → IsForced parts (sides_behind (start_of_last log stack) (take place (steps_of_last log stack))) (record { choice = step.choice; side = step.side; cycle = cycle })
      → (one : ForceStep) → slice_get (last_steps state.log state.levels) place ≡ Some one → IsForced state.parts (sides_after (taken_before state.log state.levels) (take place (last_steps state.log state.levels))) (record one { cycle = cycle })
  cycle_at cycle forced = subst (λ (b : BranchState). (one : ForceStep) → slice_get (last_steps b.log b.levels) place ≡ Some one → IsForced b.parts (sides_after (taken_before b.log b.levels) (take place (last_steps b.log b.levels))) (record one { cycle = cycle })) seen
      (subst₂ (λ (start : Sides) (steps : List ForceStep). (one : ForceStep) → slice_get steps place ≡ Some one → IsForced parts (sides_after start (take place steps)) (record one { cycle = cycle })) (sym (before_is log stack)) (sym (last_bare log stack))
      (cycle_logged parts (start_of_last log stack) (steps_of_last log stack) place step step cycle within at forced))
