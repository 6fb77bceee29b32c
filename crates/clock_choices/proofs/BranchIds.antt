-- What is known where sides of choices are assumed is known of what remains, and ids in order keep the sessions.
use Rattle.std.proofs.Common.{◌≡◌, ◌⊎◌, ◌↔◌, ◌||◌, ◌&&◌, Bool, true, false, nat_eq, nat_lt, ℕ, zero, suc, ◌+◌, ◌-◌, ◌<◌, List, [], ◌∷◌, length, get_or, filter, map, Option, Some, None, refl, sym, ap, ◌∙◌, subst, inl, inr, arith, Contains}
use Rattle.std.specs.Option.{MatchOption}
use Rattle.std.proofs.lemmas.Bool.{and_parts, eq-eqb, eqb-true, ltb-true}
use Rattle.std.proofs.lemmas.List.Kept.{AllPairs-filter}
use Rattle.txn.specs.declared.transactions.TxnId.{TxnId}
use Rattle.txn.specs.declared.transactions.Txn.{Txn}
use Rattle.txn.specs.declared.transactions.Source.TheVariants.{By}
use Rattle.txn.specs.declared.choices.Arc.{Arc}
use Rattle.txn.specs.History.{ids_from, in_session}
use Rattle.txn.specs.Transactions.{id_below}
use Rattle.order_check.specs.declared.remainder.Parts.{Parts}
use Rattle.order_check.specs.Based.{Remains, mark_of, remaining_ids, remaining_of}
use Rattle.order_check.specs.Cycles.{IsCycle, Sides}
use Rattle.order_check.specs.Explains.{KeepsSessions}
use Rattle.order_check.specs.Known.{Known, by_base, by_read, by_session, by_taken, forces_after, forces_before, through}
use Rattle.order_check.specs.Search.{HasCycle}
use Rattle.session_clocks.specs.Graphs.{GraphState}
use Rattle.clock_choices.specs.declared.branch.Top.{Top}
use Rattle.clock_choices.specs.declared.steps.Forced.{Forced}
use Rattle.clock_choices.specs.Acyclic.{HasNoCycle, IsCycleOf}
use Rattle.clock_choices.specs.BranchState.{all_taken, arc_of, assumed}
use Rattle.clock_choices.specs.Indexing.{AreInOrder}
use Rattle.clock_choices.specs.Logging.{AreRight}
use Rattle.clock_choices.specs.Stacks.{AreStacked, levels_of}
use Rattle.clock_choices.specs.Steps.{bare}
use Rattle.clock_choices.proofs.LeftSteps.{filter_in, in_filter}
use Rattle.clock_choices.proofs.Logged.{first_or}
use Rattle.clock_choices.proofs.Remaining.{bounds_of, bounds_remain, reader_remains, writer_remains}
use Rattle.clock_choices.proofs.RemainingIds.{below_in_session}
use Rattle.clock_choices.proofs.Stacked.{arc_same, at_exact, stacked_here, taken_all}
use Rattle.clock_choices.proofs.StepsOn.{side_remains}
use Rattle.clock_choices.proofs.There.{remains_there}

-- both remain
abbrev pub BothRemain : Parts → TxnId → TxnId → Type 0
BothRemain parts a b = Remains parts a × Remains parts b

known_remain_from : (parts : Parts) (taken : Sides) → ((a b : TxnId) → Contains taken (a, b) → BothRemain parts a b) → (a b : TxnId) → Known parts taken a b → BothRemain parts a b
known_remain_from parts taken ends a b (by_session first second same below) = (first, second)
known_remain_from parts taken ends a b (by_read key reads writes) = (writer_remains parts a key writes, reader_remains parts b key (By a) reads)
known_remain_from parts taken ends a b (by_base key reads writes apart) = (reader_remains parts a key reads.0 reads.1, writer_remains parts b key writes)
known_remain_from parts taken ends a b (by_taken there) = ends a b there
known_remain_from parts taken ends a b (through {b = mid} first second) = ((known_remain_from parts taken ends a mid first).0, (known_remain_from parts taken ends mid b second).1)
known_remain_from parts taken ends a b (forces_after choice is known) = (reader_remains parts choice.reader choice.key (By choice.writer) is.reads, writer_remains parts choice.other choice.key is.other)
known_remain_from parts taken ends a b (forces_before choice is known) = (writer_remains parts choice.other choice.key is.other, writer_remains parts choice.writer choice.key is.written)

-- each side that is assumed is one of a choice
assumed_remain : (parts : Parts) (ids : List TxnId) (log : List Forced) (stack : List Top) (graph : GraphState) → AreStacked parts ids log stack graph → (a b : TxnId) → Contains (assumed (levels_of stack)) (a, b) → BothRemain parts a b
assumed_remain parts ids log [] graph h a b there = absurd (omega (arith, there.1))
assumed_remain parts ids log (top ∷ stack) graph h a b there = elim (first_or (arc_of top.assumed.choice top.assumed.side) (assumed (levels_of stack)) (a, b) there) [
  | inl same ↦ subst (λ (one : TxnId × TxnId). BothRemain parts one.0 one.1) (arc_same top.assumed.choice top.assumed.side ∙ same) (side_remains parts top.assumed.choice top.assumed.side h.2)
  | inr before ↦ assumed_remain parts ids log stack h.1.0 h.1.2 a b before
]

pub stacked_remain : (parts : Parts) (ids : List TxnId) (log : List Forced) (stack : List Top) (graph : GraphState) → AreStacked parts ids log stack graph → (a b : TxnId) → Known parts (assumed (levels_of stack)) a b → BothRemain parts a b
stacked_remain parts ids log stack graph h a b known = known_remain_from parts (assumed (levels_of stack)) (assumed_remain parts ids log stack graph h) a b known

-- ids in order, as a fact about numbers
abbrev IsBelow : TxnId → TxnId → Type 0
IsBelow a b = (a.session < b.session) ⊎ ((a.session ≡ b.session) × (a.number < b.number))

below_cases : (a b : TxnId) → id_below a b ≡ true → IsBelow a b
below_cases a b h = by_first (nat_lt a.session b.session) refl h
  where
    by_first : (t : Bool) → nat_lt a.session b.session ≡ t → (t || (nat_eq a.session b.session && nat_lt a.number b.number)) ≡ true → IsBelow a b
    by_first true e h = inl (ltb-true a.session b.session e)
    by_first false e h = let both = and_parts (nat_eq a.session b.session) (nat_lt a.number b.number) h in inr (eqb-true a.session b.session both.0, ltb-true a.number b.number both.1)

not_itself : (id : TxnId) → id_below id id ≡ true → ⊥
not_itself id h = by_part (below_cases id id h)
  where
    by_part : IsBelow id id → ⊥
    by_part (inl low) = omega (arith, low)
    by_part (inr (same, low)) = omega (arith, low)

not_both : (a b : TxnId) → id_below a b ≡ true → id_below b a ≡ true → ⊥
not_both a b first second = by_part (below_cases a b first) (below_cases b a second)
  where
    by_part : IsBelow a b → IsBelow b a → ⊥
    by_part (inl low) (inl high) = omega (arith, low, high)
    by_part (inl low) (inr (same, high)) = omega (arith, low, same)
    by_part (inr (same, low)) (inl high) = omega (arith, same, high)
    by_part (inr (same, low)) (inr (other, high)) = omega (arith, low, high)

head_below : (x : TxnId) (xs : List TxnId) → AreInOrder (x ∷ xs) → (y : TxnId) → Contains xs y → id_below x y ≡ true
head_below x xs rise y (k, within, is) = subst (λ (one : TxnId). id_below x one ≡ true) is (rise 0 (suc k) y (omega arith) (omega (arith, within)))

tail_rises : (x : TxnId) (xs : List TxnId) → AreInOrder (x ∷ xs) → AreInOrder xs
tail_rises x xs rise i j d less within = rise (suc i) (suc j) d (omega (arith, less)) (omega (arith, within))

head_first : (x y : TxnId) (xs ys : List TxnId) → AreInOrder (x ∷ xs) → AreInOrder (y ∷ ys) → Contains (y ∷ ys) x → Contains (x ∷ xs) y → x ≡ y
head_first x y xs ys first second here there = elim (first_or y ys x here) [
  | inl same ↦ sym same
  | inr behind ↦ elim (first_or x xs y there) [
    | inl same ↦ same
    | inr after ↦ absurd (not_both x y (head_below x xs first y after) (head_below y ys second x behind))
  ]
]

-- two lists in order with the same ids are one
in_order_same : (xs ys : List TxnId) → AreInOrder xs → AreInOrder ys → ((id : TxnId) → Contains xs id → Contains ys id) → ((id : TxnId) → Contains ys id → Contains xs id) → xs ≡ ys
in_order_same [] [] first second there back = refl
in_order_same [] (y ∷ ys) first second there back = absurd (let none = back y (0, (omega arith), refl) in let within = none.1 in omega (arith, within))
in_order_same (x ∷ xs) [] first second there back = absurd (let none = there x (0, (omega arith), refl) in let within = none.1 in omega (arith, within))
in_order_same (x ∷ xs) (y ∷ ys) first second there back =
    let same : x ≡ y = head_first x y xs ys first second (there x (0, (omega arith), refl)) (back y (0, (omega arith), refl)) in
    let rest : xs ≡ ys = in_order_same xs ys (tail_rises x xs first) (tail_rises y ys second)
    (λ id among. elim (first_or y ys id (there id (behind x xs id among))) [
      | inr is ↦ is
      | inl at ↦ absurd (not_itself id (subst (λ (one : TxnId). id_below one id ≡ true) (same ∙ at) (head_below x xs first id among)))
    ])
    (λ id among. elim (first_or x xs id (back id (behind y ys id among))) [
      | inr is ↦ is
      | inl at ↦ absurd (not_itself id (subst (λ (one : TxnId). id_below one id ≡ true) (sym same ∙ at) (head_below y ys second id among)))
    ]) in
    ap (λ (one : TxnId). one ∷ xs) same ∙ ap (λ (some : List TxnId). y ∷ some) rest
  where
    behind : (x : TxnId) (xs : List TxnId) (id : TxnId) → Contains xs id → Contains (x ∷ xs) id
    behind x xs id (k, within, is) = (suc k, omega (arith, within), is)

-- the ids of a session
at_place : (s first : ℕ) (txns : List Txn) (k : ℕ) (d : TxnId) → k < length (ids_from s first txns) → (k < length txns) × (get_or (ids_from s first txns) k d ≡ record { session = s; number = first + k })
at_place s first [] k d within = absurd (omega (arith, within))
at_place s first (txn ∷ txns) zero d within = ((omega arith), ap (λ (n : ℕ). let id : TxnId = record { session = s; number = n } in id) (omega arith))
at_place s first (txn ∷ txns) (suc k) d within =
    let rest = at_place s (first + 1) txns k d (omega (arith, within)) in
    let inside = rest.0 in
    (omega (arith, inside), rest.1 ∙ ap (λ (n : ℕ). let id : TxnId = record { session = s; number = n } in id) (omega arith))

same_txn : (s n : ℕ) (id : TxnId) → s ≡ id.session → n ≡ id.number → record { session = s; number = n } ≡ id
same_txn s n id session number = λ i. record { session = session i; number = number i }

ids_count : (s first : ℕ) (txns : List Txn) → length (ids_from s first txns) ≡ length txns
ids_count s first [] = refl
ids_count s first (txn ∷ txns) = ap suc (ids_count s (first + 1) txns)

session_rises : (s first : ℕ) (txns : List Txn) → AreInOrder (ids_from s first txns)
session_rises s first txns i j d less within =
    let one = at_place s first txns i d (omega (arith, less, within)) in
    let other = at_place s first txns j d within in
    subst (λ (a : TxnId). id_below a (get_or (ids_from s first txns) j d) ≡ true) (sym one.1) (subst (λ (b : TxnId). id_below (record { session = s; number = first + i }) b ≡ true) (sym other.1) (below_in_session (record { session = s; number = first + i }) (record { session = s; number = first + j }) refl (omega (arith, less))))

-- ids in order, of all that remains and nothing else, keep the sessions
pub sessions_kept : (parts : Parts) (ids : List TxnId) → AreInOrder ids → ((id : TxnId) → Contains ids id ↔ Remains parts id) → KeepsSessions parts ids
sessions_kept parts ids rise members s = in_order_same (filter (in_session s) ids) (remaining_ids parts s) (AllPairs-filter (λ a b. id_below a b ≡ true) (in_session s) ids rise) (session_rises s (mark_of parts s) (remaining_of parts s)) there back
  where
    there : (id : TxnId) → Contains (filter (in_session s) ids) id → Contains (remaining_ids parts s) id
    there id among =
        let kept = in_filter (in_session s) ids id among in
        let same : s ≡ id.session = eqb-true s id.session kept.1 in
        let bounds = bounds_of parts id ((members id).0 kept.0) in
        let low = bounds.low in
        let high = bounds.high in
        let m : mark_of parts id.session ≡ mark_of parts s = ap (λ (t : ℕ). mark_of parts t) (sym same) in
        let r : length (remaining_of parts id.session) ≡ length (remaining_of parts s) = ap (λ (t : ℕ). length (remaining_of parts t)) (sym same) in
        let count = ids_count s (mark_of parts s) (remaining_of parts s) in
        let k = id.number - mark_of parts s in
        let within : k < length (remaining_ids parts s) = omega (arith, low, high, m, r, count) in
        let at = at_place s (mark_of parts s) (remaining_of parts s) k id within in
        let is : record { session = s; number = mark_of parts s + k } ≡ id = same_txn s (mark_of parts s + k) id same (omega (arith, low, m)) in
        (k, within, at.1 ∙ is)

    back : (id : TxnId) → Contains (remaining_ids parts s) id → Contains (filter (in_session s) ids) id
    back id (k, within, is) =
        let at = at_place s (mark_of parts s) (remaining_of parts s) k id within in
        let same : record { session = s; number = mark_of parts s + k } ≡ id = sym at.1 ∙ is in
        let own : s ≡ id.session = ap (λ (x : TxnId). x.session) same in
        let number : mark_of parts s + k ≡ id.number = ap (λ (x : TxnId). x.number) same in
        let m : mark_of parts id.session ≡ mark_of parts s = ap (λ (t : ℕ). mark_of parts t) (sym own) in
        let r : length (remaining_of parts id.session) ≡ length (remaining_of parts s) = ap (λ (t : ℕ). length (remaining_of parts t)) (sym own) in
        let inside = at.0 in
        filter_in (in_session s) ids id ((members id).1 (bounds_remain parts id (record { low = omega (arith, number, m); high = omega (arith, number, m, r, inside) }))) (eq-eqb s id.session own)

-- a cycle of the graph is one of what is known
pub cycle_at_last : (parts : Parts) (ids : List TxnId) (log : List Forced) (stack : List Top) (graph : GraphState) → AreStacked parts ids log stack graph → (found : Option (List Arc)) → MatchOption found (HasNoCycle graph.gone graph.received graph.arcs) (IsCycleOf parts graph.gone graph.received graph.arcs)
    → MatchOption found (¬ HasCycle parts (assumed (levels_of stack))) (λ arcs. HasCycle parts (assumed (levels_of stack)) × IsCycle parts (all_taken (map bare log) (levels_of stack)) arcs)
cycle_at_last parts ids log stack graph h None none = λ cycle.
    let (id, known) = cycle in
    let relation = stacked_here parts ids log stack graph h in
    none id (remains_there parts graph.gone graph.received relation.over id (stacked_remain parts ids log stack graph h id id known).0) ((at_exact parts log stack graph relation id id).1 known)
cycle_at_last parts ids log stack graph h (Some arcs) is =
    let (id, both) = is.on in
    let relation = stacked_here parts ids log stack graph h in
    let logged = relation.logged in (
      (id, (at_exact parts log stack graph relation id id).0 both.1),
      is.right (all_taken (map bare log) (levels_of stack)) (subst (λ (sides : Sides). AreRight parts sides graph.arcs) (sym (taken_all log stack)) logged.right),
    )
