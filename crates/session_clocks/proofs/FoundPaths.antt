-- Paths, and the trees along which they are found.
use Rattle.std.proofs.Common.{◌≡◌, ◌≢◌, ◌⊎◌, ℕ, zero, suc, ◌+◌, ◌<◌, ◌≤◌, List, [], ◌∷◌, ◌++◌, length, take, get_or, set, refl, sym, ap, subst, subst₂, ◌∙◌, inl, inr, arith, Contains, length-append, length-set, cond, Bool, true, false, ◌&&◌, nat_eq}
use Rattle.std.proofs.lemmas.Bool.{cases_eq, cases_lt, lt-ltb, le-ltb, eq-eqb, eqb-true, false≢true}
use Rattle.std.proofs.lemmas.List.{take-append-le, get_or_append_left, get_or-set_same, get_or-set_other, get_or_past, get_or_default, take_more}
use Rattle.std.proofs.lemmas.List.Elements.{All-contains, Contains-append_left, Contains-push, Contains-push_cases}
use Rattle.std.proofs.Math.Seq.{take-append_seam, get_or-append_seam}
use Rattle.list_lemmas.proofs.Ends.{push_not_nil}
use Rattle.txn.specs.declared.transactions.TxnId.{TxnId}
use Rattle.txn.specs.declared.choices.Arc.{Arc}
use Rattle.txn.specs.declared.choices.Arc.TheVariants.{Session, Read, Base, Taken}
use Rattle.txn.specs.Arcs.{start_of, end_of}
use Rattle.session_clocks.specs.Paths.{IsStep, Leads, IsPathOf}
use Rattle.session_clocks.specs.Reach.{IsThere, Reaches, by_session, by_arc, through}
use Rattle.session_clocks.specs.Trees.{IsAlong, IsBefore, StartsOne, LeadsOn, AreNearer, IsLed, IsLedTo, IsTreeTo, IsWhole, IsTaken, IsTreeOf, HasLooked, rooms, along}

module _ (gone received : List ℕ) (arcs : List Arc) where
  pub Leads-append : (a b c : TxnId) (path more : List Arc) → Leads gone received arcs a path b → Leads gone received arcs b more c → Leads gone received arcs a (path ++ more) c
  Leads-append a b c [] more same on = subst (λ id. Leads gone received arcs id more c) (sym same) on
  Leads-append a b c (arc ∷ path) more leads on = (leads.0, leads.1, Leads-append (end_of arc) b c path more leads.2 on)

  pub Leads-push : (a b : TxnId) (path : List Arc) (arc : Arc) → IsStep gone received arcs arc → start_of arc ≡ b → Leads gone received arcs a path b → Leads gone received arcs a (path ++ arc ∷ []) (end_of arc)
  Leads-push a b path arc step start leads = Leads-append a b (end_of arc) path (arc ∷ []) leads (start, step, refl)

  step_reaches : (arc : Arc) → IsStep gone received arcs arc → Reaches gone received arcs (start_of arc) (end_of arc)
  step_reaches arc (inl there) = by_arc arc there
  step_reaches (Session from to) (inr is) = by_session from to is.0 is.1 is.2 is.3
  step_reaches (Read key from to) (inr is) = absurd is
  step_reaches (Base key from to) (inr is) = absurd is
  step_reaches (Taken from to) (inr is) = absurd is

  leads_reach : (arc : Arc) (path : List Arc) (goal : TxnId) → IsStep gone received arcs arc → Leads gone received arcs (end_of arc) path goal → Reaches gone received arcs (start_of arc) goal
  leads_reach arc [] goal step same = subst (λ id. Reaches gone received arcs (start_of arc) id) same (step_reaches arc step)
  leads_reach arc (next ∷ path) goal step leads = through (start_of arc) (end_of arc) goal (step_reaches arc step) (subst (λ id. Reaches gone received arcs id goal) leads.0 (leads_reach next path goal leads.1 leads.2))

  pub path_reaches : (start goal : TxnId) (path : List Arc) → IsPathOf gone received arcs start path goal → Reaches gone received arcs start goal
  path_reaches start goal [] is = absurd (is.some refl)
  path_reaches start goal (arc ∷ path) is = subst (λ id. Reaches gone received arcs id goal) is.leads.0 (leads_reach arc path goal is.leads.1 is.leads.2)

  -- the step along a session
  pub along_leads : (from to : TxnId) → IsAlong from to → IsThere gone received from → IsThere gone received to → Leads gone received arcs from (along from to) to
  along_leads from to is first second = elim (cases_lt from.number to.number) [
    | inl below ↦ subst (λ (b : Bool). Leads gone received arcs from (cond b (Session from to ∷ []) []) to) (sym (lt-ltb from.number to.number below)) (refl, inr (first, second, is.0, below), refl)
    | inr above ↦ subst (λ (b : Bool). Leads gone received arcs from (cond b (Session from to ∷ []) []) to) (sym (le-ltb from.number to.number above)) (same_id (omega (arith, is.1)))
  ]
    where
      same_id : from.number ≡ to.number → from ≡ to
      same_id number i = record { session = is.0 i; number = number i }

-- steps of some arcs are steps of more
pub Leads-more : (gone received : List ℕ) (some more : List Arc) → ((arc : Arc) → Contains some arc → Contains more arc) → (a : TxnId) (path : List Arc) (goal : TxnId) → Leads gone received some a path goal → Leads gone received more a path goal
Leads-more gone received some more stay a [] goal leads = leads
Leads-more gone received some more stay a (arc ∷ path) goal leads =
    (leads.0, elim (leads.1) [ inl there ↦ inl (stay arc there) | inr is ↦ inr is ], Leads-more gone received some more stay (end_of arc) path goal leads.2)

pub along_some : (from goal : TxnId) → IsBefore goal from → along from goal ≡ Session from goal ∷ []
along_some from goal is = ap (λ (b : Bool). cond b (Session from goal ∷ []) []) (lt-ltb from.number goal.number is.1)

-- one more arc of the tree
module _ (goal : TxnId) (tree : List Arc) (arc : Arc) where
  LeadsOn-push : (id : TxnId) → LeadsOn goal tree id → LeadsOn goal (tree ++ arc ∷ []) id
  LeadsOn-push id (inl before) = inl before
  LeadsOn-push id (inr (other, there, along)) = inr (other, Contains-append_left tree (arc ∷ []) other there, along)

  AreNearer-push : AreNearer goal tree → (end_of arc ≡ goal) ⊎ LeadsOn goal tree (end_of arc) → AreNearer goal (tree ++ arc ∷ [])
  AreNearer-push nearer on k d within = elim (cases_lt k (length tree)) [
    | inl before ↦
        subst (λ (front : List Arc). (end_of (get_or (tree ++ arc ∷ []) k d) ≡ goal) ⊎ LeadsOn goal front (end_of (get_or (tree ++ arc ∷ []) k d))) (sym (take-append-le k tree (arc ∷ []) (omega arith)))
        (subst (λ (one : Arc). (end_of one ≡ goal) ⊎ LeadsOn goal (take k tree) (end_of one)) (sym (get_or_append_left tree (arc ∷ []) d k before)) (nearer k d before))
    | inr last ↦
        let len = length-append tree (arc ∷ []) in
        subst (λ n. (end_of (get_or (tree ++ arc ∷ []) n d) ≡ goal) ⊎ LeadsOn goal (take n (tree ++ arc ∷ [])) (end_of (get_or (tree ++ arc ∷ []) n d))) (omega (arith, within, last, len))
        (subst (λ (front : List Arc). (end_of (get_or (tree ++ arc ∷ []) (length tree) d) ≡ goal) ⊎ LeadsOn goal front (end_of (get_or (tree ++ arc ∷ []) (length tree) d))) (sym (take-append_seam tree (arc ∷ [])))
        (subst (λ (one : Arc). (end_of one ≡ goal) ⊎ LeadsOn goal tree (end_of one)) (sym (get_or-append_seam tree arc [] d)) on))
  ]

  module _ (tops new_tops : List ℕ) (new_tree : List Arc) (within : (start_of arc).session < length tops) (is : IsTreeTo goal tops tree) (taken : IsTaken goal arc tops tree new_tops new_tree) where
    raised_same : get_or (set tops (start_of arc).session ((start_of arc).number + 1)) (start_of arc).session 0 ≡ (start_of arc).number + 1
    raised_same = get_or-set_same tops (start_of arc).session ((start_of arc).number + 1) 0 within

    raised_other : (session : ℕ) → session ≢ (start_of arc).session → get_or (set tops (start_of arc).session ((start_of arc).number + 1)) session 0 ≡ get_or tops session 0
    raised_other session apart = get_or-set_other tops (start_of arc).session session ((start_of arc).number + 1) 0 apart

    led_below : (id : TxnId) → IsLed (set tops (start_of arc).session ((start_of arc).number + 1)) id → LeadsOn goal (tree ++ arc ∷ []) id
    led_below id led = elim (cases_eq id.session (start_of arc).session) [
      | inl same ↦
          let top = ap (λ s. get_or (set tops (start_of arc).session ((start_of arc).number + 1)) s 0) same in
          inr (arc, Contains-push tree arc, (same, omega (arith, led, top, raised_same)))
      | inr apart ↦ let top = raised_other id.session apart in LeadsOn-push id (is.below id (omega (arith, led, top)))
    ]

    goal_below : goal.number ≤ get_or (set tops (start_of arc).session ((start_of arc).number + 1)) goal.session 0
    goal_below = elim (cases_eq goal.session (start_of arc).session) [
      | inl same ↦
          let top = ap (λ s. get_or (set tops (start_of arc).session ((start_of arc).number + 1)) s 0) same in
          let old = ap (λ s. get_or tops s 0) same in
          elim (cases_lt (start_of arc).number (get_or tops (start_of arc).session 0)) [
            | inl led ↦ absurd (taken.out led)
            | inr high ↦ let goals = is.goals in omega (arith, goals, old, high, top, raised_same)
          ]
      | inr apart ↦ let top = raised_other goal.session apart in let goals = is.goals in omega (arith, goals, top)
    ]

    leads_end : (end_of arc ≡ goal) ⊎ LeadsOn goal tree (end_of arc)
    leads_end = elim (taken.on) [ inl same ↦ inl same | inr led ↦ inr (is.below (end_of arc) led) ]

    pub IsTreeTo-taken : IsTreeTo goal new_tops new_tree
    IsTreeTo-taken = subst (λ tops. IsTreeTo goal tops new_tree) (sym taken.raised) (subst (λ (arcs : List Arc). IsTreeTo goal (set tops (start_of arc).session ((start_of arc).number + 1)) arcs) (sym taken.pushed)
        (record { nearer = AreNearer-push is.nearer leads_end; below = led_below; goals = goal_below }))

-- a greater number leaves less
pub rooms-set : (received tops : List ℕ) (session top : ℕ) → session < length tops → session < length received → get_or tops session 0 < top → top ≤ get_or received session 0 → rooms received (set tops session top) < rooms received tops
rooms-set received [] session top within has more most = absurd (omega (arith, within))
rooms-set [] (first ∷ tops) session top within has more most = absurd (omega (arith, has))
rooms-set (count ∷ received) (first ∷ tops) zero top within has more most = omega (arith, more, most)
rooms-set (count ∷ received) (first ∷ tops) (suc session) top within has more most =
    let less = rooms-set received tops session top (omega (arith, within)) (omega (arith, has)) more most in omega (arith, less)

-- an arc that is taken
module _ (received : List ℕ) (goal : TxnId) (arcs : List Arc) (arc : Arc) (tops new_tops : List ℕ) (tree new_tree : List Arc) (there : Contains arcs arc)
    (low : (start_of arc).number < get_or received (start_of arc).session 0) (is : IsTreeOf received goal arcs tops tree) (taken : IsTaken goal arc tops tree new_tops new_tree) where
  start_within : (start_of arc).session < length received
  start_within = elim (cases_lt (start_of arc).session (length received)) [
    | inl within ↦ within
    | inr past ↦ let none = get_or_past received (start_of arc).session 0 past in absurd (omega (arith, none, low))
  ]

  top_within : (start_of arc).session < length tops
  top_within = omega (arith, start_within, is.sessions)

  within_after : (session : ℕ) → get_or (set tops (start_of arc).session ((start_of arc).number + 1)) session 0 ≤ get_or received session 0
  within_after session = elim (cases_eq session (start_of arc).session) [
    | inl same ↦
        let top = ap (λ s. get_or (set tops (start_of arc).session ((start_of arc).number + 1)) s 0) same in
        let count = ap (λ s. get_or received s 0) same in
        let number = get_or-set_same tops (start_of arc).session ((start_of arc).number + 1) 0 top_within in
        omega (arith, top, count, number, low)
    | inr apart ↦
        let top = get_or-set_other tops (start_of arc).session session ((start_of arc).number + 1) 0 apart in
        let was = is.within session in omega (arith, top, was)
  ]

  among_after : (other : Arc) → Contains (tree ++ arc ∷ []) other → Contains arcs other
  among_after other pushed = elim (Contains-push_cases tree arc other pushed) [
    | inl before ↦ is.among other before
    | inr same ↦ subst (λ one. Contains arcs one) same there
  ]

  pub tree_taken : IsTreeOf received goal arcs new_tops new_tree
  tree_taken = record {
    sessions = ap length taken.raised ∙ omega (arith, is.sessions, length-set {A = ℕ});
    within = λ session. let e = ap (λ (ts : List ℕ). get_or ts session 0) taken.raised in let w = within_after session in omega (arith, e, w);
    leads = IsTreeTo-taken goal tree arc tops new_tops new_tree top_within is.leads taken;
    among = λ other in_new. among_after other (subst (λ (ts : List Arc). Contains ts other) taken.pushed in_new);
  }

  pub rooms_taken : rooms received new_tops < rooms received tops
  rooms_taken = subst (λ (ts : List ℕ). rooms received ts < rooms received tops) (sym taken.raised)
      (rooms-set received tops (start_of arc).session ((start_of arc).number + 1) top_within start_within
      (elim (cases_lt (start_of arc).number (get_or tops (start_of arc).session 0)) [ inl led ↦ absurd (taken.out led) | inr high ↦ omega (arith, high) ])
      (omega (arith, low)))

-- one comes along the session to the start of an arc before the last one of these, where that isn't one
pub starts_front : (tree : List Arc) (k : ℕ) (d : Arc) (id : TxnId) → k < length tree → StartsOne (take (k + 1) tree) id → ¬ IsAlong id (start_of (get_or tree k d)) → StartsOne (take k tree) id
starts_front tree k d id within (arc, there, along) not = elim (Contains-push_cases (take k tree) (get_or tree k d) arc (subst (λ (front : List Arc). Contains front arc) (take_more tree k d within) there)) [
  | inl before ↦ (arc, before, along)
  | inr same ↦ absurd (not (subst (λ (one : Arc). IsAlong id (start_of one)) (sym same) along))
]

-- the room is no more than at first
rooms_so_far : (received mid first : List ℕ) (taken : Bool) → (taken ≡ true → rooms received mid < rooms received first) → (taken ≡ false → mid ≡ first) → rooms received mid ≤ rooms received first
rooms_so_far received mid first true less same = let l = less refl in omega (arith, l)
rooms_so_far received mid first false less same = let e = ap (λ (ts : List ℕ). rooms received ts) (same refl) in omega (arith, e)

pub rooms_less : (received new mid first : List ℕ) (taken : Bool) → rooms received new < rooms received mid → (taken ≡ true → rooms received mid < rooms received first) → (taken ≡ false → mid ≡ first) → rooms received new < rooms received first
rooms_less received new mid first taken now less same = let l = rooms_so_far received mid first taken less same in omega (arith, now, l)

-- all was looked at
pub looked_all : (taken : Bool) (received : List ℕ) (goal : TxnId) (arcs : List Arc) (tops new : List ℕ) → (taken ≡ true → rooms received new < rooms received tops) → (taken ≡ false → new ≡ tops) → (taken ≡ false → IsWhole goal new arcs) → HasLooked taken received goal arcs tops new
looked_all true received goal arcs tops new less same whole = less refl
looked_all false received goal arcs tops new less same whole = (same refl, whole refl)

-- one more arc that doesn't lead on
pub looked_one : (goal : TxnId) (arcs : List Arc) (tops : List ℕ) (place : ℕ) (e : Arc) → place < length arcs → (IsLedTo tops goal (end_of (get_or arcs place e)) → IsLed tops (start_of (get_or arcs place e)))
    → ((k : ℕ) (d : Arc) → place + 1 ≤ k → k < length arcs → IsLedTo tops goal (end_of (get_or arcs k d)) → IsLed tops (start_of (get_or arcs k d)))
    → (k : ℕ) (d : Arc) → place ≤ k → k < length arcs → IsLedTo tops goal (end_of (get_or arcs k d)) → IsLed tops (start_of (get_or arcs k d))
looked_one goal arcs tops place e within here rest k d from below = elim (cases_eq k place) [
  | inl same ↦
      subst (λ n. IsLedTo tops goal (end_of (get_or arcs n d)) → IsLed tops (start_of (get_or arcs n d))) (sym same)
      (subst (λ (arc : Arc). IsLedTo tops goal (end_of arc) → IsLed tops (start_of arc)) (get_or_default arcs place e d within) here)
  | inr apart ↦ rest k d (omega arith) below
]

-- a path of some of the arcs is one of all
pub path_more : (gone received : List ℕ) (some more : List Arc) → ((arc : Arc) → Contains some arc → Contains more arc) → (start goal : TxnId) (path : List Arc) → IsPathOf gone received some start path goal → IsPathOf gone received more start path goal
path_more gone received some more stay start goal path is = record { some = is.some; leads = Leads-more gone received some more stay start path goal is.leads }

-- where no arc leads on from outside, what reaches the goal is within
pub whole_reaches : (gone received : List ℕ) (arcs : List Arc) (tops : List ℕ) (goal : TxnId) → IsWhole goal tops arcs → goal.number ≤ get_or tops goal.session 0 → {a b : TxnId} → Reaches gone received arcs a b → IsLedTo tops goal b → IsLed tops a
whole_reaches gone received arcs tops goal whole goals (by_session a b first second same below) to = along_led a b same below to
  where
    along_led : (a b : TxnId) → a.session ≡ b.session → a.number < b.number → IsLedTo tops goal b → IsLed tops a
    along_led a b same below (inl is) =
        let session = same ∙ ap (λ (id : TxnId). id.session) is in
        let top = ap (λ s. get_or tops s 0) session in
        let number = ap (λ (id : TxnId). id.number) is in
        omega (arith, goals, top, number, below)
    along_led a b same below (inr led) = let top = ap (λ s. get_or tops s 0) same in omega (arith, top, below, led)
whole_reaches gone received arcs tops goal whole goals (by_arc arc there) to = All-contains (λ one. IsLedTo tops goal (end_of one) → IsLed tops (start_of one)) arcs arc whole there to
whole_reaches gone received arcs tops goal whole goals (through a b c first second) to =
    whole_reaches gone received arcs tops goal whole goals first (inr (whole_reaches gone received arcs tops goal whole goals second to))

-- one step of the walk along the tree
module _ (tree : List Arc) (goal : TxnId) (place : ℕ) (d : Arc) (within : place < length tree) (here : TxnId) where
  pub on_without : ¬ IsBefore goal here → LeadsOn goal (take (place + 1) tree) here → ¬ IsAlong here (start_of (get_or tree place d)) → LeadsOn goal (take place tree) here
  on_without not (inl before) apart = absurd (not before)
  on_without not (inr starts) apart = inr (starts_front tree place d here within starts apart)

  pub on_after : AreNearer goal tree → end_of (get_or tree place d) ≢ goal → LeadsOn goal (take place tree) (end_of (get_or tree place d))
  on_after nearer apart = elim (nearer place d within) [
    | inl same ↦ absurd (apart same)
    | inr on ↦ on
  ]

-- at the end the order of the session leads to the goal
pub on_none : (tree : List Arc) (goal here : TxnId) → LeadsOn goal (take 0 tree) here → IsBefore goal here
on_none tree goal here (inl before) = before
on_none tree goal here (inr (arc, there, along)) = absurd (omega (arith, there.1))

module _ (gone received : List ℕ) (tree : List Arc) (start here : TxnId) (path : List Arc) (leads : Leads gone received tree start path here) where
  -- along the session, and then the arc
  pub leads_after : (arc : Arc) → Contains tree arc → IsAlong here (start_of arc) → IsThere gone received here → IsThere gone received (start_of arc) → Leads gone received tree start ((path ++ along here (start_of arc)) ++ arc ∷ []) (end_of arc)
  leads_after arc there is first second =
      Leads-push gone received tree start (start_of arc) (path ++ along here (start_of arc)) arc (inl there) refl
      (Leads-append gone received tree start here (start_of arc) path (along here (start_of arc)) leads (along_leads gone received tree here (start_of arc) is first second))

  -- along the session to the goal
  pub path_to_goal : (goal : TxnId) → IsBefore goal here → IsThere gone received here → IsThere gone received goal → IsPathOf gone received tree start (path ++ along here goal) goal
  path_to_goal goal before first second = record {
    some = λ none. push_not_nil path (Session here goal) (sym (ap (λ xs. path ++ xs) (along_some here goal before)) ∙ none);
    leads = Leads-append gone received tree start here goal path (along here goal) leads (along_leads gone received tree here goal (before.0, omega (arith, before.1)) first second);
  }

-- the walk, with the lists as they were pushed
module _ (gone received : List ℕ) (tree : List Arc) (start here : TxnId) (path : List Arc) where
  pub leads_walked : (arc : Arc) (along_path pushed : List Arc) (from end : TxnId) → pushed ≡ along_path ++ arc ∷ [] → along_path ≡ path ++ along here from → from ≡ start_of arc → end ≡ end_of arc
      → Contains tree arc → IsAlong here from → IsThere gone received here → IsThere gone received (start_of arc) → Leads gone received tree start path here → Leads gone received tree start pushed end
  leads_walked arc along_path pushed from end was_pushed was_along is_start is_end there is first second leads =
      subst₂ (λ (way : List Arc) (id : TxnId). Leads gone received tree start way id) (sym (was_pushed ∙ ap (λ way. way ++ arc ∷ []) (was_along ∙ ap (λ id. path ++ along here id) is_start))) (sym is_end)
      (leads_after gone received tree start here path leads arc there (subst (λ id. IsAlong here id) is_start is) first second)

-- ids that are compared
pub same_id_is : (a b : TxnId) → (nat_eq a.session b.session && nat_eq a.number b.number) ≡ true → a ≡ b
same_id_is a b is = by_tests (nat_eq a.session b.session) (nat_eq a.number b.number) refl refl is
  where
    by_tests : (first second : Bool) → nat_eq a.session b.session ≡ first → nat_eq a.number b.number ≡ second → (first && second) ≡ true → a ≡ b
    by_tests true true e f both = λ i. record { session = eqb-true a.session b.session e i; number = eqb-true a.number b.number f i }
    by_tests true false e f both = absurd (false≢true both)
    by_tests false second e f both = absurd (false≢true both)

pub other_id_is : (a b : TxnId) → (nat_eq a.session b.session && nat_eq a.number b.number) ≡ false → a ≢ b
other_id_is a b not same =
    let both : (nat_eq a.session b.session && nat_eq a.number b.number) ≡ true = rw (eq-eqb a.session b.session (ap (λ (id : TxnId). id.session) same), eq-eqb a.number b.number (ap (λ (id : TxnId). id.number) same)) refl in
    absurd (false≢true (sym not ∙ both))
