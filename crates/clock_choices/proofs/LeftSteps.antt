-- What a cut leaves of the steps: each was forced over the arcs that stay.
use Rattle.std.proofs.Common.{◌≡◌, ◌⊎◌, ℕ, zero, suc, ◌+◌, ◌<◌, ◌≤◌, Bool, true, false, cond, List, [], ◌∷◌, ◌++◌, filter, length, get_or, map, take, not, ◌&&◌, is_some, IsSomeAnd, Option, refl, sym, ap, subst, ◌∙◌, inl, inr, arith, append-nil, append_assoc, length-append, Contains, All}
use Rattle.std.proofs.lemmas.Bool.{cases_lt, false≢true, le-ltb, lt-ltb}
use Rattle.std.proofs.lemmas.List.{take_more}
use Rattle.std.proofs.lemmas.List.Elements.{All-contains, Contains-append_left, Contains-get_or, filter_more}
use Rattle.txn.specs.declared.transactions.TxnId.{TxnId}
use Rattle.txn.specs.declared.transactions.Txn.{Txn}
use Rattle.txn.specs.declared.transactions.Source.{Source}
use Rattle.txn.specs.declared.transactions.Source.TheVariants.{By}
use Rattle.txn.specs.declared.choices.Arc.{Arc}
use Rattle.txn.specs.declared.choices.Arc.TheVariants.{Session, Read, Base, Taken}
use Rattle.txn.specs.declared.choices.Choice.{Choice}
use Rattle.txn.specs.declared.choices.Side.{Side}
use Rattle.txn.specs.declared.choices.Side.TheVariants.{First, Second}
use Rattle.txn.specs.Arcs.{start_of, end_of}
use Rattle.txn.specs.History.{writes_key}
use Rattle.order_check.specs.declared.remainder.Parts.{Parts}
use Rattle.order_check.specs.Based.{Remains, remaining_at}
use Rattle.order_check.specs.Cuts.{IsContentCutOff}
use Rattle.order_check.specs.CutLaws.{CutLeavesTheRest, CutMovesBase, LeadsNotBack}
use Rattle.order_check.specs.Cycles.{IsArc, Sides, side_taken, sides_after}
use Rattle.order_check.specs.Known.{IsChoice, ReadsKey, WritesKey, by_read}
use Rattle.session_clocks.specs.Drops.{NoneReachesBack, arc_stays, id_stays}
use Rattle.session_clocks.specs.Reach.{IsThere, Reaches, by_session, by_arc, through}
use Rattle.clock_choices.specs.declared.steps.Forced.{Forced}
use Rattle.clock_choices.specs.declared.cutting.Count.{Count}
use Rattle.clock_choices.specs.LeftSteps.{IsCount, left_step, steps_left}
use Rattle.clock_choices.specs.Logging.{AreRight, HasRight, IsLogged, IsStepAfter}
use Rattle.clock_choices.specs.Nodes.{IsArcThere}
use Rattle.clock_choices.specs.Over.{IsOver}
use Rattle.clock_choices.specs.SaturatedState.{choice_remains, sides_logged}
use Rattle.clock_choices.specs.Steps.{bare, conclusion, conclusion_of, premise, premise_of, sides_of}
use Rattle.clock_choices.proofs.FullLogs.{side_among}
use Rattle.clock_choices.proofs.Logged.{first_or, taken_is}
use Rattle.clock_choices.proofs.NewChoices.{same_or_apart}
use Rattle.clock_choices.proofs.Remaining.{reader_remains, writer_remains}
use Rattle.clock_choices.proofs.There.{remains_there, there_remains}

-- lists of which some stay
there_more : {X : Type 0} (x : X) (xs : List X) (y : X) → Contains xs y → Contains (x ∷ xs) y
there_more x xs y (k, within, is) = (suc k, (omega arith), is)

pub in_filter : {X : Type 0} (p : X → Bool) (xs : List X) (x : X) → Contains (filter p xs) x → Contains xs x × (p x ≡ true)
in_filter p [] x there = absurd (omega (arith, there.1))
in_filter {X} p (y ∷ xs) x there = by_test (λ among. in_filter p xs x among) (p y) refl there
  where
    by_test : (Contains (filter p xs) x → Contains xs x × (p x ≡ true)) → (t : Bool) → p y ≡ t → Contains (cond t (y ∷ filter p xs) (filter p xs)) x → Contains (y ∷ xs) x × (p x ≡ true)
    by_test so_far false e among = let rest = so_far among in (there_more y xs x rest.0, rest.1)
    by_test so_far true e among = elim (first_or y (filter p xs) x among) [
      | inl same ↦ ((0, (omega arith), same), subst (λ (z : X). p z ≡ true) same e)
      | inr later ↦ let rest = so_far later in (there_more y xs x rest.0, rest.1)
    ]

pub filter_in : {X : Type 0} (p : X → Bool) (xs : List X) (x : X) → Contains xs x → p x ≡ true → Contains (filter p xs) x
filter_in p [] x there is = absurd (omega (arith, there.1))
filter_in {X} p (y ∷ xs) x there is = by_test (λ later. filter_in p xs x later is) (p y) refl (first_or y xs x there)
  where
    by_test : (Contains xs x → Contains (filter p xs) x) → (t : Bool) → p y ≡ t → (y ≡ x) ⊎ Contains xs x → Contains (cond t (y ∷ filter p xs) (filter p xs)) x
    by_test so_far true e (inl same) = (0, (omega arith), same)
    by_test so_far false e (inl same) = absurd (false≢true (sym e ∙ ap p same ∙ is))
    by_test so_far true e (inr later) = there_more y (filter p xs) x (so_far later)
    by_test so_far false e (inr later) = so_far later

-- of those that stay the first so many are those that stay of the first
pub filter_front : {X : Type 0} (p : X → Bool) (xs : List X) (k : ℕ) → (take (length (filter p (take k xs))) (filter p xs) ≡ filter p (take k xs)) × (length (filter p (take k xs)) ≤ length (filter p xs))
filter_front p [] zero = (refl, omega arith)
filter_front p [] (suc k) = (refl, omega arith)
filter_front {X} p (x ∷ xs) zero = (take_zero (filter p (x ∷ xs)), omega arith)
  where
    take_zero : (ys : List X) → take 0 ys ≡ []
    take_zero [] = refl
    take_zero (y ∷ ys) = refl
filter_front {X} p (x ∷ xs) (suc k) = by_test (p x) (filter_front p xs k)
  where
    by_test : (t : Bool) → (take (length (filter p (take k xs))) (filter p xs) ≡ filter p (take k xs)) × (length (filter p (take k xs)) ≤ length (filter p xs))
        → (take (length (cond t (x ∷ filter p (take k xs)) (filter p (take k xs)))) (cond t (x ∷ filter p xs) (filter p xs)) ≡ cond t (x ∷ filter p (take k xs)) (filter p (take k xs))) × (length (cond t (x ∷ filter p (take k xs)) (filter p (take k xs))) ≤ length (cond t (x ∷ filter p xs) (filter p xs)))
    by_test false rest = rest
    by_test true rest = (ap (λ (ys : List X). x ∷ ys) rest.0, (let most = rest.1 in omega (arith, most)))

pub in_front : {X : Type 0} (k : ℕ) (xs : List X) (x : X) → Contains (take k xs) x → Contains xs x
in_front zero [] x there = there
in_front zero (y ∷ xs) x there = absurd (omega (arith, there.1))
in_front (suc k) [] x there = there
in_front (suc k) (y ∷ xs) x there = elim (first_or y (take k xs) x there) [ inl same ↦ (0, (omega arith), same) | inr later ↦ there_more y xs x (in_front k xs x later) ]

contains_or : (xs : List TxnId) (x : TxnId) → Contains xs x ⊎ (¬ Contains xs x)
contains_or [] x = inr (λ there. omega (arith, there.1))
contains_or (y ∷ xs) x = elim (same_or_apart y x) [
  | inl same ↦ inl (0, (omega arith), same)
  | inr apart ↦ elim (contains_or xs x) [
    | inl later ↦ inl (there_more y xs x later)
    | inr none ↦ inr (λ there. elim (first_or y xs x there) [ inl same ↦ apart same | inr later ↦ none later ])
  ]
]

-- who stays
module _ (were left received : List ℕ) where
  there_stays : (id : TxnId) → IsThere left received id → id_stays left id ≡ true
  there_stays id there = ap not (le-ltb id.number (get_or left id.session 0) there.0)

  both_stay : (arc : Arc) → IsThere left received (start_of arc) → IsThere left received (end_of arc) → arc_stays left arc ≡ true
  both_stay arc first second = ap (λ (t : Bool). t && id_stays left (end_of arc)) (there_stays (start_of arc) first) ∙ there_stays (end_of arc) second

  reaches_sub : (some all : List Arc) → ((arc : Arc) → Contains some arc → Contains all arc) → {a b : TxnId} → Reaches were received some a b → Reaches were received all a b
  reaches_sub some all more (by_session a b first second same below) = by_session a b first second same below
  reaches_sub some all more (by_arc arc there) = by_arc arc (more arc there)
  reaches_sub some all more (through a b c first second) = through a b c (reaches_sub some all more first) (reaches_sub some all more second)

  -- from one that stays one comes along arcs that stay
  kept_reach : (some : List Arc) → All (IsArcThere were received) some → NoneReachesBack were received some left → {a b : TxnId} → Reaches were received some a b → IsThere left received a → Reaches left received (filter (arc_stays left) some) a b × IsThere left received b
  kept_reach some ends back (by_session a b first second same below) there =
      let s : get_or left a.session 0 ≡ get_or left b.session 0 = ap (λ (k : ℕ). get_or left k 0) same in
      let low = there.0 in
      let on : IsThere left received b = (omega (arith, s, low, below), second.1) in
      (by_session a b there on same below, on)
  kept_reach some ends back (by_arc arc found) there =
      let end = (All-contains (IsArcThere were received) some arc ends found).1 in
      let on : IsThere left received (end_of arc) = elim (cases_lt (end_of arc).number (get_or left (end_of arc).session 0)) [
        | inl below ↦ absurd (back (start_of arc) (end_of arc) there (λ is. let low = is.0 in omega (arith, low, below)) (by_arc arc found))
        | inr above ↦ (above, end.1)
      ] in
      (by_arc arc (filter_in (arc_stays left) some arc found (both_stay arc there on)), on)
  kept_reach some ends back (through a b c first second) there =
      let on = kept_reach some ends back first there in
      let then = kept_reach some ends back second on.1 in
      (through a b c on.0 then.0, then.1)

  -- what is reached along arcs that stay was reached
  left_reach : (some : List Arc) → ((s : ℕ) → get_or were s 0 ≤ get_or left s 0) → {a b : TxnId} → Reaches left received (filter (arc_stays left) some) a b → Reaches were received some a b
  left_reach some rise (by_session a b first second same below) = by_session a b (was a first) (was b second) same below
    where
      was : (id : TxnId) → IsThere left received id → IsThere were received id
      was id there = (let up = rise id.session in let low = there.0 in omega (arith, up, low), there.1)
  left_reach some rise (by_arc arc found) = by_arc arc (in_filter (arc_stays left) some arc found).0
  left_reach some rise (through a b c first second) = through a b c (left_reach some rise first) (left_reach some rise second)

-- a side that is taken is that of one of the steps
side_from : (steps : List Forced) (taken : Sides) (x : TxnId × TxnId) → Contains (sides_after taken (map bare steps)) x → Contains taken x ⊎ ((step : Forced) × Contains steps step × (conclusion step ≡ x))
side_from [] taken x there = inl there
side_from (step ∷ steps) taken x there = elim (side_from steps (side_taken (bare step) ∷ taken) x there) [
  | inr (later, among, is) ↦ inr (later, there_more step steps later among, is)
  | inl now ↦ elim (first_or (side_taken (bare step)) taken x now) [
    | inl same ↦ inr (step, (0, (omega arith), refl), sym (taken_is step.choice step.side) ∙ same)
    | inr before ↦ inl before
  ]
]

side_in : (steps : List Forced) (step : Forced) → Contains steps step → Contains (sides_of steps) (conclusion step)
side_in steps step (k, within, is) = subst (λ (one : Forced). Contains (sides_of steps) (conclusion one)) is (side_among steps [] k step within)

module _ (old new : Parts) (gone : List TxnId) (cut : IsContentCutOff old gone new) (leaves : CutLeavesTheRest) (moves : CutMovesBase) (not_back : LeadsNotBack old gone)
    (were left received : List ℕ) (arcs : List Arc) (over : IsOver new left received) (rise : (s : ℕ) → get_or were s 0 ≤ get_or left s 0) (ends : All (IsArcThere were received) arcs) (back : NoneReachesBack were received arcs left) where
  was_there : (id : TxnId) → Remains new id → Remains old id
  was_there id remains = ((leaves old new gone cut id).1.0 remains).0

  reads_left : (id : TxnId) (key : ℕ) (source : Source) → Remains new id → ReadsKey old id key source → ReadsKey new id key source
  reads_left id key source remains reads = subst (λ (t : Option Txn). IsSomeAnd t (λ txn. Contains txn.reads (key, source))) (sym ((leaves old new gone cut id).2 remains)) reads

  writes_left : (id : TxnId) (key : ℕ) → Remains new id → WritesKey old id key → WritesKey new id key
  writes_left id key remains writes = subst (λ (t : Option Txn). writes_key t key ≡ true) (sym ((leaves old new gone cut id).2 remains)) writes

  choice_left : (choice : Choice) → Remains new choice.reader → Remains new choice.writer → Remains new choice.other → IsChoice old choice → IsChoice new choice
  choice_left choice reader writer other is = record {
    reads = reads_left choice.reader choice.key (By choice.writer) reader is.reads;
    written = writes_left choice.writer choice.key writer is.written;
    other = writes_left choice.other choice.key other is.other;
    not_writer = is.not_writer;
    not_reader = is.not_reader;
  }

  -- one that was there and isn't left goes
  goes : (id : TxnId) → Remains old id → ¬ Remains new id → Contains gone id
  goes id was none = elim (contains_or gone id) [ inl there ↦ there | inr stays ↦ absurd (none ((leaves old new gone cut id).1.1 (was, stays))) ]

  remains_or : (id : TxnId) → Remains new id ⊎ (¬ Remains new id)
  remains_or id = by_test (is_some (remaining_at new id)) refl
    where
      by_test : (t : Bool) → is_some (remaining_at new id) ≡ t → Remains new id ⊎ (¬ Remains new id)
      by_test true e = inl e
      by_test false e = inr (λ remains. false≢true (sym e ∙ remains))

  all_remain : (choice : Choice) → Remains new choice.reader → Remains new choice.writer → Remains new choice.other → choice_remains new choice ≡ true
  all_remain choice reader writer other = ap (λ (t : Bool). (t && is_some (remaining_at new choice.writer)) && is_some (remaining_at new choice.other)) reader ∙ ap (λ (t : Bool). t && is_some (remaining_at new choice.other)) writer ∙ other

  each_remains : (choice : Choice) → choice_remains new choice ≡ true → Remains new choice.reader × Remains new choice.writer × Remains new choice.other
  each_remains choice is = by_tests (is_some (remaining_at new choice.reader)) (is_some (remaining_at new choice.writer)) (is_some (remaining_at new choice.other)) refl refl refl is
    where
      by_tests : (r w o : Bool) → is_some (remaining_at new choice.reader) ≡ r → is_some (remaining_at new choice.writer) ≡ w → is_some (remaining_at new choice.other) ≡ o → ((r && w) && o) ≡ true → Remains new choice.reader × Remains new choice.writer × Remains new choice.other
      by_tests true true true reader writer other all = (reader, writer, other)
      by_tests true true false reader writer other all = absurd (false≢true all)
      by_tests true false o reader writer other all = absurd (false≢true all)
      by_tests false w o reader writer other all = absurd (false≢true all)

  -- the steps that are left
  abbrev pub left_of : List Forced → List Forced
  left_of steps = steps_left new left arcs steps

  in_left : (steps : List Forced) (step : Forced) → Contains steps step → choice_remains new step.choice ≡ true → Contains (left_of steps) (left_step left arcs step)
  in_left [] step there remains = absurd (omega (arith, there.1))
  in_left (first ∷ steps) step there remains = by_test (λ later. in_left steps step later remains) (choice_remains new first.choice) refl (first_or first steps step there)
    where
      by_test : (Contains steps step → Contains (left_of steps) (left_step left arcs step)) → (t : Bool) → choice_remains new first.choice ≡ t → (first ≡ step) ⊎ Contains steps step → Contains (cond t (left_step left arcs first ∷ left_of steps) (left_of steps)) (left_step left arcs step)
      by_test so_far true e (inl same) = (0, (omega arith), ap (λ (one : Forced). left_step left arcs one) same)
      by_test so_far false e (inl same) = absurd (false≢true (sym e ∙ ap (λ (one : Forced). choice_remains new one.choice) same ∙ remains))
      by_test so_far true e (inr later) = there_more (left_step left arcs first) (left_of steps) (left_step left arcs step) (so_far later)
      by_test so_far false e (inr later) = so_far later

  left_in : (steps : List Forced) (one : Forced) → Contains (left_of steps) one → (step : Forced) × Contains steps step × (choice_remains new step.choice ≡ true) × (left_step left arcs step ≡ one)
  left_in [] one there = absurd (omega (arith, there.1))
  left_in (first ∷ steps) one there = by_test (λ among. left_in steps one among) (choice_remains new first.choice) refl there
    where
      by_test : (Contains (left_of steps) one → (step : Forced) × Contains steps step × (choice_remains new step.choice ≡ true) × (left_step left arcs step ≡ one)) → (t : Bool) → choice_remains new first.choice ≡ t → Contains (cond t (left_step left arcs first ∷ left_of steps) (left_of steps)) one → (step : Forced) × Contains (first ∷ steps) step × (choice_remains new step.choice ≡ true) × (left_step left arcs step ≡ one)
      by_test so_far false e among = let rest = so_far among in (rest.0, there_more first steps rest.0 rest.1, rest.2, rest.3)
      by_test so_far true e among = elim (first_or (left_step left arcs first) (left_of steps) one among) [
        | inl same ↦ (first, (0, (omega arith), refl), e, same)
        | inr later ↦ let rest = so_far later in (rest.0, there_more first steps rest.0 rest.1, rest.2, rest.3)
      ]

  -- an arc that was right is right, where both its ends are left
  module _ (steps : List Forced) (choices : (step : Forced) → Contains steps step → IsChoice old step.choice) where
    taken_left : (from to : TxnId) → Remains new from → Remains new to → Contains (sides_of steps) (from, to) → HasRight new (sides_of (left_of steps)) from to
    taken_left from to start end there = elim (side_from steps [] (from, to) there) [
      | inl none ↦ absurd (omega (arith, none.1))
      | inr (step, among, is) ↦ by_side step among step.side refl is
    ]
      where
        stay : (step : Forced) → Contains steps step → conclusion step ≡ (from, to) → Remains new step.choice.reader → Remains new step.choice.writer → Remains new step.choice.other → HasRight new (sides_of (left_of steps)) from to
        stay step among is reader writer other =
            let in_them = in_left steps step among (all_remain step.choice reader writer other) in
            (Taken from to, refl, refl, subst (λ (x : TxnId × TxnId). Contains (sides_of (left_of steps)) x) is (side_in (left_of steps) (left_step left arcs step) in_them))

        by_side : (step : Forced) → Contains steps step → (side : Side) → step.side ≡ side → conclusion step ≡ (from, to) → HasRight new (sides_of (left_of steps)) from to
        by_side step among First side is =
            let choice = step.choice in
            let of = choices step among in
            let at : ◌≡◌ {A = TxnId × TxnId} (conclusion_of choice First) (from, to) = ap (λ (s : Side). conclusion_of choice s) (sym side) ∙ is in
            let other : Remains new choice.other = subst (λ (id : TxnId). Remains new id) (sym (ap (λ (x : TxnId × TxnId). x.0) at)) start in
            let writer : Remains new choice.writer = subst (λ (id : TxnId). Remains new id) (sym (ap (λ (x : TxnId × TxnId). x.1) at)) end in
            elim (remains_or choice.reader) [
              | inl reader ↦ stay step among is reader writer other
              | inr none ↦ absurd (not_back choice.writer choice.reader (((leaves old new gone cut choice.writer).1.0 writer).1) (goes choice.reader (reader_remains old choice.reader choice.key (By choice.writer) of.reads) none) (by_read choice.key of.reads of.written))
            ]
        by_side step among Second side is =
            let choice = step.choice in
            let of = choices step among in
            let at : ◌≡◌ {A = TxnId × TxnId} (conclusion_of choice Second) (from, to) = ap (λ (s : Side). conclusion_of choice s) (sym side) ∙ is in
            let reader : Remains new choice.reader = subst (λ (id : TxnId). Remains new id) (sym (ap (λ (x : TxnId × TxnId). x.0) at)) start in
            let other : Remains new choice.other = subst (λ (id : TxnId). Remains new id) (sym (ap (λ (x : TxnId × TxnId). x.1) at)) end in
            elim (remains_or choice.writer) [
              | inl writer ↦ stay step among is reader writer other
              | inr none ↦
                  let reads = reads_left choice.reader choice.key (By choice.writer) reader of.reads in
                  let base = (moves old new gone cut not_back choice.reader choice.key (By choice.writer) reads).1 (inr (choice.writer, refl, goes choice.writer (writer_remains old choice.writer choice.key of.written) none, of.written)) in
                  (Base choice.key choice.reader choice.other, ap (λ (x : TxnId × TxnId). x.0) at, ap (λ (x : TxnId × TxnId). x.1) at, ((By choice.writer, reads, base), writes_left choice.other choice.key other of.other, of.not_reader))
            ]

    arc_left : (arc : Arc) → IsArc old (sides_of steps) arc → Remains new (start_of arc) → Remains new (end_of arc) → HasRight new (sides_of (left_of steps)) (start_of arc) (end_of arc)
    arc_left (Session from to) (first, second, same, below) start end = (Session from to, refl, refl, (start, end, same, below))
    arc_left (Read key from to) (reads, writes) start end = (Read key from to, refl, refl, (reads_left to key (By from) end reads, writes_left from key start writes))
    arc_left (Base key from to) ((source, reads, is), writes, apart) start end =
        let read = reads_left from key source start reads in
        (Base key from to, refl, refl, ((source, read, (moves old new gone cut not_back from key source read).1 (inl is)), writes_left to key end writes, apart))
    arc_left (Taken from to) there start end = taken_left from to start end there

    right_left : (some : List Arc) → ((arc : Arc) → Contains some arc → IsThere left received (start_of arc) × IsThere left received (end_of arc)) → AreRight old (sides_of steps) some → AreRight new (sides_of (left_of steps)) some
    right_left some stay right k d within =
        let arc = get_or some k d in
        let there = Contains-get_or some k d within in
        let both = stay arc there in
        let one = All-contains (λ (x : Arc). HasRight old (sides_of steps) (start_of x) (end_of x)) some arc right there in
        let start = there_remains new left received over (start_of arc) both.0 in
        let end = there_remains new left received over (end_of arc) both.1 in
        let found = arc_left one.0 one.3 (subst (λ (id : TxnId). Remains new id) (sym one.1) start) (subst (λ (id : TxnId). Remains new id) (sym one.2) end) in
        (found.0, found.1 ∙ one.1, found.2 ∙ one.2, found.3)

  -- what is left of arcs that were there
  front_stays : (some : List Arc) → ((arc : Arc) → Contains some arc → Contains arcs arc) → (arc : Arc) → Contains (filter (arc_stays left) some) arc → IsThere left received (start_of arc) × IsThere left received (end_of arc)
  front_stays some among arc there =
      let found = in_filter (arc_stays left) some arc there in
      let was = All-contains (IsArcThere were received) arcs arc ends (among arc found.0) in
      let both = and_both (id_stays left (start_of arc)) (id_stays left (end_of arc)) found.1 in
      (on (start_of arc) was.0 both.0, on (end_of arc) was.1 both.1)
    where
      and_both : (a b : Bool) → (a && b) ≡ true → (a ≡ true) × (b ≡ true)
      and_both true b is = (refl, is)
      and_both false b is = absurd (false≢true is)

      on : (id : TxnId) → IsThere were received id → id_stays left id ≡ true → IsThere left received id
      on id was stays = elim (cases_lt id.number (get_or left id.session 0)) [
        | inr above ↦ (above, was.1)
        | inl below ↦ absurd (false≢true (sym (ap not (lt-ltb id.number (get_or left id.session 0) below)) ∙ stays))
      ]

  -- a step that is left was forced over the arcs that are left
  step_left : (before : List Forced) (step : Forced) → ((one : Forced) → Contains before one → IsChoice old one.choice) → choice_remains new step.choice ≡ true → IsStepAfter old were received arcs before step → IsStepAfter new left received (filter (arc_stays left) arcs) (left_of before) (left_step left arcs step)
  step_left before step choices stays is =
      let choice = step.choice in
      let remain = each_remains choice stays in
      let some = take step.arcs arcs in
      let cut_off = filter_front (arc_stays left) arcs step.arcs in
      let front : filter (arc_stays left) some ≡ take (left_step left arcs step).arcs (filter (arc_stays left) arcs) = sym cut_off.0 in
      let among : (arc : Arc) → Contains some arc → Contains arcs arc = λ arc there. in_front step.arcs arcs arc there in
      let some_ends : All (IsArcThere were received) some = λ k d within. All-contains (IsArcThere were received) arcs (get_or some k d) ends (among (get_or some k d) (Contains-get_or some k d within)) in
      let some_back : NoneReachesBack were received some left = λ id other there none reached. back id other there none (reaches_sub were left received some arcs among reached) in
      let there : (id : TxnId) → Remains new id → IsThere left received id = λ id remains. remains_there new left received over id remains in
      let stay : (arc : Arc) → Contains (filter (arc_stays left) some) arc → IsThere left received (start_of arc) × IsThere left received (end_of arc) = front_stays some among in
      let right : AreRight old (sides_of before) (filter (arc_stays left) some) = λ k d within. All-contains (λ (x : Arc). HasRight old (sides_of before) (start_of x) (end_of x)) some (get_or (filter (arc_stays left) some) k d) is.right (in_filter (arc_stays left) some (get_or (filter (arc_stays left) some) k d) (Contains-get_or (filter (arc_stays left) some) k d within)).0 in
      record {
        choice_of = choice_left choice remain.0 remain.1 remain.2 is.choice_of;
        within = cut_off.1;
        right = subst (λ (xs : List Arc). AreRight new (sides_of (left_of before)) xs) front (right_left before choices (filter (arc_stays left) some) stay right);
        ready = subst (λ (xs : List Arc). Reaches left received xs (premise step).0 (premise step).1) front (kept_reach were left received some some_ends some_back is.ready (there (premise step).0 (premise_remains choice step.side remain.0 remain.1 remain.2))).0;
        new = λ reached. is.new (left_reach were left received some rise (subst (λ (xs : List Arc). Reaches left received xs (conclusion step).0 (conclusion step).1) (sym front) reached));
        sides = λ a b taken. by_step a b some_ends some_back front (side_from (left_of before) [] (a, b) taken);
      }
    where
      premise_remains : (choice : Choice) (side : Side) → Remains new choice.reader → Remains new choice.writer → Remains new choice.other → Remains new (premise_of choice side).0
      premise_remains choice First reader writer other = other
      premise_remains choice Second reader writer other = writer

      start_remains : (choice : Choice) (side : Side) → Remains new choice.reader → Remains new choice.writer → Remains new choice.other → Remains new (conclusion_of choice side).0
      start_remains choice First reader writer other = other
      start_remains choice Second reader writer other = reader

      by_step : (a b : TxnId) → All (IsArcThere were received) (take step.arcs arcs) → NoneReachesBack were received (take step.arcs arcs) left → filter (arc_stays left) (take step.arcs arcs) ≡ take (left_step left arcs step).arcs (filter (arc_stays left) arcs)
          → Contains {X = TxnId × TxnId} [] (a, b) ⊎ ((one : Forced) × Contains (left_of before) one × (conclusion one ≡ (a, b))) → Reaches left received (take (left_step left arcs step).arcs (filter (arc_stays left) arcs)) a b
      by_step a b some_ends some_back front (inl none) = absurd (omega (arith, none.1))
      by_step a b some_ends some_back front (inr (one, among, same)) =
          let found = left_in before one among in
          let earlier = found.0 in
          let remain = each_remains earlier.choice found.2 in
          let at : conclusion earlier ≡ (a, b) = ap (λ (x : Forced). conclusion x) found.3 ∙ same in
          let was = is.sides a b (subst (λ (x : TxnId × TxnId). Contains (sides_of before) x) at (side_in before earlier found.1)) in
          let start = subst (λ (id : TxnId). Remains new id) (ap (λ (x : TxnId × TxnId). x.0) at) (start_remains earlier.choice earlier.side remain.0 remain.1 remain.2) in
          subst (λ (xs : List Arc). Reaches left received xs a b) front (kept_reach were left received (take step.arcs arcs) some_ends some_back was (remains_there new left received over a start)).0

  -- so of each
  left_push : (done : List Forced) (step : Forced) → left_of (done ++ step ∷ []) ≡ left_of done ++ left_of (step ∷ [])
  left_push [] step = refl
  left_push (first ∷ done) step = by_test (choice_remains new first.choice) (left_push done step)
    where
      by_test : (t : Bool) → left_of (done ++ step ∷ []) ≡ left_of done ++ left_of (step ∷ []) → cond t (left_step left arcs first ∷ left_of (done ++ step ∷ [])) (left_of (done ++ step ∷ [])) ≡ cond t (left_step left arcs first ∷ left_of done) (left_of done) ++ left_of (step ∷ [])
      by_test true rest = ap (λ (xs : List Forced). left_step left arcs first ∷ xs) rest
      by_test false rest = rest

  each_left : (done steps : List Forced) → ((one : Forced) → Contains (done ++ steps) one → IsChoice old one.choice) → ((i : ℕ) (d : Forced) → i < length steps → IsStepAfter old were received arcs (done ++ take i steps) (get_or steps i d))
      → (i : ℕ) (d : Forced) → i < length (left_of steps) → IsStepAfter new left received (filter (arc_stays left) arcs) (left_of done ++ take i (left_of steps)) (get_or (left_of steps) i d)
  each_left done [] choices each = λ i d within. absurd (omega arith)
  each_left done (step ∷ steps) choices each = by_test (each_left (done ++ step ∷ []) steps (λ one there. choices one (subst (λ (xs : List Forced). Contains xs one) (append_assoc done (step ∷ []) steps) there))
      (λ i d within. subst (λ (xs : List Forced). IsStepAfter old were received arcs xs (get_or steps i d)) (sym (append_assoc done (step ∷ []) (take i steps))) (each (suc i) d (omega arith)))) (choice_remains new step.choice) refl
    where
      first : choice_remains new step.choice ≡ true → IsStepAfter new left received (filter (arc_stays left) arcs) (left_of done) (left_step left arcs step)
      first stays = step_left done step (λ one there. choices one (in_left_part done (step ∷ steps) one there)) stays (subst (λ (xs : List Forced). IsStepAfter old were received arcs xs step) (append-nil done) (each 0 step (omega arith)))
        where
          in_left_part : (xs ys : List Forced) (one : Forced) → Contains xs one → Contains (xs ++ ys) one
          in_left_part xs ys one there = Contains-append_left xs ys one there

      by_test : ((i : ℕ) (d : Forced) → i < length (left_of steps) → IsStepAfter new left received (filter (arc_stays left) arcs) (left_of (done ++ step ∷ []) ++ take i (left_of steps)) (get_or (left_of steps) i d)) → (t : Bool) → choice_remains new step.choice ≡ t → (i : ℕ) (d : Forced) → i < length (cond t (left_step left arcs step ∷ left_of steps) (left_of steps))
          → IsStepAfter new left received (filter (arc_stays left) arcs) (left_of done ++ take i (cond t (left_step left arcs step ∷ left_of steps) (left_of steps))) (get_or (cond t (left_step left arcs step ∷ left_of steps) (left_of steps)) i d)
      by_test rest false e i d within = subst (λ (xs : List Forced). IsStepAfter new left received (filter (arc_stays left) arcs) (xs ++ take i (left_of steps)) (get_or (left_of steps) i d))
          (left_push done step ∙ ap (λ (t : Bool). left_of done ++ cond t (left_step left arcs step ∷ []) []) e ∙ append-nil (left_of done)) (rest i d within)
      by_test rest true e zero d within = subst (λ (xs : List Forced). IsStepAfter new left received (filter (arc_stays left) arcs) xs (left_step left arcs step)) (sym (append-nil (left_of done))) (first e)
      by_test rest true e (suc i) d within = subst (λ (xs : List Forced). IsStepAfter new left received (filter (arc_stays left) arcs) xs (get_or (left_of steps) i d))
          (ap (λ (xs : List Forced). xs ++ take i (left_of steps)) (left_push done step ∙ ap (λ (t : Bool). left_of done ++ cond t (left_step left arcs step ∷ []) []) e) ∙ append_assoc (left_of done) (left_step left arcs step ∷ []) (take i (left_of steps))) (rest i d (omega arith))

  pub logged_left : (steps : List Forced) → IsLogged old were received arcs steps → IsLogged new left received (filter (arc_stays left) arcs) (left_of steps)
  logged_left steps logged = record {
    right = right_left steps choices (filter (arc_stays left) arcs) (front_stays arcs (λ arc there. there)) (λ k d within. All-contains (λ (x : Arc). HasRight old (sides_of steps) (start_of x) (end_of x)) arcs (get_or (filter (arc_stays left) arcs) k d) logged.right (in_filter (arc_stays left) arcs (get_or (filter (arc_stays left) arcs) k d) (Contains-get_or (filter (arc_stays left) arcs) k d within)).0);
    each = each_left [] steps choices logged.each;
  }
    where
      choices : (step : Forced) → Contains steps step → IsChoice old step.choice
      choices step (k, within, is) = subst (λ (one : Forced). IsChoice old one.choice) is (let of = logged.each k step within in of.choice_of)

  -- the sides that are left are taken then
  pub sides_left : (steps : List Forced) → ((a b : TxnId) → Contains (sides_of steps) (a, b) → Reaches were received arcs a b) → (a b : TxnId) → Contains (sides_of (left_of steps)) (a, b) → Reaches left received (filter (arc_stays left) arcs) a b
  sides_left steps taken a b there = elim (side_from (left_of steps) [] (a, b) there) [
    | inl none ↦ absurd (omega (arith, none.1))
    | inr (one, among, same) ↦
        let found = left_in steps one among in
        let earlier = found.0 in
        let remain = each_remains earlier.choice found.2 in
        let at : conclusion earlier ≡ (a, b) = ap (λ (x : Forced). conclusion x) found.3 ∙ same in
        let was = taken a b (subst (λ (x : TxnId × TxnId). Contains (sides_of steps) x) at (side_in steps earlier found.1)) in
        let start = subst (λ (id : TxnId). Remains new id) (ap (λ (x : TxnId × TxnId). x.0) at) (start_of_side earlier.choice earlier.side remain.0 remain.1 remain.2) in
        (kept_reach were left received arcs ends back was (remains_there new left received over a start)).0
  ]
    where
      start_of_side : (choice : Choice) (side : Side) → Remains new choice.reader → Remains new choice.writer → Remains new choice.other → Remains new (conclusion_of choice side).0
      start_of_side choice First reader writer other = other
      start_of_side choice Second reader writer other = reader

-- of the sides that were logged those stay of whose choices all three remain
pub logs_left : (parts : Parts) (left : List ℕ) (arcs : List Arc) (steps : List Forced) → sides_logged (map bare (steps_left parts left arcs steps)) ≡ filter (λ one. choice_remains parts one.0) (sides_logged (map bare steps))
logs_left parts left arcs [] = refl
logs_left parts left arcs (step ∷ steps) = by_test (choice_remains parts step.choice) (logs_left parts left arcs steps)
  where
    by_test : (t : Bool) → sides_logged (map bare (steps_left parts left arcs steps)) ≡ filter (λ one. choice_remains parts one.0) (sides_logged (map bare steps))
        → sides_logged (map bare (cond t (left_step left arcs step ∷ steps_left parts left arcs steps) (steps_left parts left arcs steps))) ≡ cond t ((step.choice, step.side) ∷ filter (λ one. choice_remains parts one.0) (sides_logged (map bare steps))) (filter (λ one. choice_remains parts one.0) (sides_logged (map bare steps)))
    by_test true rest = ap (λ (xs : List (Choice × Side)). (step.choice, step.side) ∷ xs) rest
    by_test false rest = rest

-- how many stay of those at the front
pub count_one_more : {X : Type 0} (p : X → Bool) (xs : List X) (k : ℕ) (d : X) → k < length xs → length (filter p (take (k + 1) xs)) ≡ length (filter p (take k xs)) + cond (p (get_or xs k d)) 1 0
count_one_more {X} p xs k d within =
    let len = length-append (filter p (take k xs)) (cond (p (get_or xs k d)) (get_or xs k d ∷ []) []) in
    ap (λ (ys : List X). length ys) (filter_more p xs k d within) ∙ len ∙ ap (λ (n : ℕ). length (filter p (take k xs)) + n) (by_test (p (get_or xs k d)))
  where
    by_test : (t : Bool) → length (cond t (get_or xs k d ∷ []) []) ≡ cond t 1 0
    by_test true = refl
    by_test false = refl

pub count_within : {X : Type 0} (p : X → Bool) (xs : List X) (k : ℕ) → length (filter p (take k xs)) ≤ k
count_within p [] zero = omega arith
count_within p [] (suc k) = omega arith
count_within p (x ∷ xs) zero = omega arith
count_within {X} p (x ∷ xs) (suc k) = by_test (p x) (count_within p xs k)
  where
    by_test : (t : Bool) → length (filter p (take k xs)) ≤ k → length (cond t (x ∷ filter p (take k xs)) (filter p (take k xs))) ≤ suc k
    by_test true rest = omega arith
    by_test false rest = omega arith

-- one step more
steps_left_behind : (parts : Parts) (left : List ℕ) (arcs : List Arc) (done : List Forced) (step : Forced) → steps_left parts left arcs (done ++ step ∷ []) ≡ steps_left parts left arcs done ++ cond (choice_remains parts step.choice) (left_step left arcs step ∷ []) []
steps_left_behind parts left arcs [] step = refl
steps_left_behind parts left arcs (first ∷ done) step = by_test (choice_remains parts first.choice) (steps_left_behind parts left arcs done step)
  where
    by_test : (t : Bool) → steps_left parts left arcs (done ++ step ∷ []) ≡ steps_left parts left arcs done ++ cond (choice_remains parts step.choice) (left_step left arcs step ∷ []) []
        → cond t (left_step left arcs first ∷ steps_left parts left arcs (done ++ step ∷ [])) (steps_left parts left arcs (done ++ step ∷ [])) ≡ cond t (left_step left arcs first ∷ steps_left parts left arcs done) (steps_left parts left arcs done) ++ cond (choice_remains parts step.choice) (left_step left arcs step ∷ []) []
    by_test true rest = ap (λ (xs : List Forced). left_step left arcs first ∷ xs) rest
    by_test false rest = rest

pub steps_left_push : (parts : Parts) (left : List ℕ) (arcs : List Arc) (steps : List Forced) (k : ℕ) (d : Forced) (count : Count) (found : List Forced) → k < length steps → count.seen ≡ (get_or steps k d).arcs → IsCount left arcs count → found ≡ steps_left parts left arcs (take k steps)
    → found ++ cond (choice_remains parts (get_or steps k d).choice) (record (get_or steps k d) { arcs = count.stay } ∷ []) [] ≡ steps_left parts left arcs (take (k + 1) steps)
steps_left_push parts left arcs steps k d count found within seen is was =
    let step = get_or steps k d in
    let stay : count.stay ≡ length (filter (arc_stays left) (take step.arcs arcs)) = is.stay ∙ ap (λ (n : ℕ). length (filter (arc_stays left) (take n arcs))) seen in
    ap (λ (n : ℕ). found ++ cond (choice_remains parts step.choice) (record step { arcs = n } ∷ []) []) stay ∙ ap (λ (xs : List Forced). xs ++ cond (choice_remains parts step.choice) (left_step left arcs step ∷ []) []) was
    ∙ sym (steps_left_behind parts left arcs (take k steps) step) ∙ ap (λ (xs : List Forced). steps_left parts left arcs xs) (sym (take_more steps k d within))

-- one more is looked at
pub counted_more_if : {X : Type 0} (p : X → Bool) (xs : List X) (k : ℕ) (d : X) (stay new : ℕ) (more : Bool) → new ≡ stay + cond more 1 0 → more ≡ p (get_or xs k d) → stay ≡ length (filter p (take k xs)) → k < length xs → new ≡ length (filter p (take (k + 1) xs))
counted_more_if p xs k d stay new more is such was within = is ∙ ap (λ (t : Bool). stay + cond t 1 0) such ∙ ap (λ (n : ℕ). n + cond (p (get_or xs k d)) 1 0) was ∙ sym (count_one_more p xs k d within)
