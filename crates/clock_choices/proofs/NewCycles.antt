-- A cycle that arcs behind others close.
use Rattle.std.proofs.Common.{◌≡◌, ◌⊎◌, ℕ, ◌+◌, ◌<◌, ◌≤◌, List, [], length, get_or, take, refl, sym, ap, ◌∙◌, inl, inr, subst, subst₂, arith, Contains}
use Rattle.std.proofs.lemmas.Bool.{cases_lt}
use Rattle.std.proofs.lemmas.List.{get_or-take, get_or_default, length-take, length-take-le, take-take}
use Rattle.std.proofs.lemmas.List.Elements.{Contains-get_or}
use Rattle.std.proofs.Math.Seq.{take-length}
use Rattle.txn.specs.declared.transactions.TxnId.{TxnId}
use Rattle.txn.specs.declared.choices.Arc.{Arc}
use Rattle.txn.specs.declared.choices.Arc.TheVariants.{Session}
use Rattle.txn.specs.Arcs.{start_of, end_of}
use Rattle.txn.proofs.Ids.{same_numbers}
use Rattle.session_clocks.specs.Reach.{IsOrReaches, IsThere, Reaches, by_session, by_arc, through}
use Rattle.clock_choices.specs.Acyclic.{AddsNoCycle, AreAcyclic, HasNoCycle}

-- one of the arcs lies between the two, from whose end its start isn't reached
record GoesOver (gone received : List ℕ) (arcs : List Arc) (a b : TxnId) : Type 0 where
  arc : Arc
  there : Reaches gone received arcs (start_of arc) (end_of arc)
  ahead : IsOrReaches gone received arcs a (start_of arc)
  behind : IsOrReaches gone received arcs (end_of arc) b
  none : ¬ Reaches gone received arcs (end_of arc) (start_of arc)

module _ (gone received : List ℕ) (arcs : List Arc) where
  onward : (a b c : TxnId) → IsOrReaches gone received arcs a b → Reaches gone received arcs b c → Reaches gone received arcs a c
  onward a b c (inl same) on = subst (λ (at : TxnId). Reaches gone received arcs at c) (sym same) on
  onward a b c (inr first) on = through a b c first on

  behind_it : (a b c : TxnId) → Reaches gone received arcs a b → IsOrReaches gone received arcs b c → Reaches gone received arcs a c
  behind_it a b c on (inl same) = subst (λ (at : TxnId). Reaches gone received arcs a at) same on
  behind_it a b c on (inr second) = through a b c on second

  module _ (front : ℕ) (within : front ≤ length arcs) (adds : AddsNoCycle gone received arcs front) where
    -- what is reached is reached over the front alone, or over an arc behind it
    reached_over : {a b : TxnId} → Reaches gone received arcs a b → Reaches gone received (take front arcs) a b ⊎ GoesOver gone received arcs a b
    reached_over (by_session a b first second same below) = inl (by_session a b first second same below)
    reached_over (by_arc arc (k, inside, here)) = elim (cases_lt k front) [
      | inl below ↦ inl (by_arc arc (k, (let len = length-take-le front arcs within in omega (arith, len, below)), get_or-take front arcs k arc below ∙ here))
      | inr above ↦ inr (record {
        arc = arc;
        there = by_arc arc (k, inside, here);
        ahead = inl refl;
        behind = inl refl;
        none = subst (λ (x : Arc). ¬ Reaches gone received arcs (end_of x) (start_of x)) here (adds k arc above inside);
      })
    ]
    reached_over (through a b c first second) = by_parts (reached_over first) (reached_over second)
      where
        by_parts : Reaches gone received (take front arcs) a b ⊎ GoesOver gone received arcs a b → Reaches gone received (take front arcs) b c ⊎ GoesOver gone received arcs b c → Reaches gone received (take front arcs) a c ⊎ GoesOver gone received arcs a c
        by_parts (inl one) (inl two) = inl (through a b c one two)
        by_parts (inr over) other = inr (record { arc = over.arc; there = over.there; ahead = over.ahead; behind = inr (onward (end_of over.arc) b c over.behind second); none = over.none })
        by_parts (inl one) (inr over) = inr (record { arc = over.arc; there = over.there; ahead = inr (behind_it a b (start_of over.arc) first over.ahead); behind = over.behind; none = over.none })

    closes : (id : TxnId) (over : GoesOver gone received arcs id id) → IsOrReaches gone received arcs (end_of over.arc) id → IsOrReaches gone received arcs id (start_of over.arc) → ⊥
    closes id over (inl end) (inl start) = over.none (subst₂ (λ (a b : TxnId). Reaches gone received arcs a b) (sym (end ∙ start)) (end ∙ start) over.there)
    closes id over (inr on) start = over.none (behind_it (end_of over.arc) id (start_of over.arc) on start)
    closes id over (inl end) (inr on) = over.none (subst (λ (at : TxnId). Reaches gone received arcs at (start_of over.arc)) (sym end) on)

    -- where the front makes no cycle, and no arc behind it closes one, there is none
    pub none_closed : HasNoCycle gone received (take front arcs) → HasNoCycle gone received arcs
    none_closed none id there reached = elim (reached_over reached) [
      | inl over_front ↦ none id there over_front
      | inr over ↦ closes id over over.behind over.ahead
    ]

  -- where all were looked at
  pub acyclic_all : HasNoCycle gone received arcs → AreAcyclic gone received arcs (length arcs)
  acyclic_all none = record { within = omega arith; none = subst (λ (some : List Arc). HasNoCycle gone received some) (sym (take-length arcs)) none }

-- what makes no cycle up to a mark makes none behind it
pub acyclic_on : (gone received : List ℕ) (arcs : List Arc) (mark front : ℕ) → AreAcyclic gone received (take mark arcs) front → AreAcyclic gone received arcs front
acyclic_on gone received arcs mark front is =
    let len = length-take mark arcs in
    let within = is.within in
    record { within = omega (arith, within, len); none = subst (λ (some : List Arc). HasNoCycle gone received some) (take-take front mark arcs (omega (arith, within, len))) is.none }

-- steps along sessions alone lead to higher numbers
along_sessions : (gone received : List ℕ) {a b : TxnId} → Reaches gone received [] a b → a.number < b.number
along_sessions gone received (by_session a b first second same below) = below
along_sessions gone received (by_arc arc there) = absurd (omega (arith, there.1))
along_sessions gone received (through a b c first second) = let one = along_sessions gone received first in let two = along_sessions gone received second in omega (arith, one, two)

-- no arc makes no cycle
pub acyclic_none : (gone received : List ℕ) (arcs : List Arc) → AreAcyclic gone received arcs 0
acyclic_none gone received arcs = record { within = omega arith; none = λ id there reached. let up = along_sessions gone received reached in omega (arith, up) }

abbrev pub no_arc : Arc
no_arc = Session (record { session = 0; number = 0 }) (record { session = 0; number = 0 })

module _ (gone received : List ℕ) (arcs own : List Arc) where
  -- the start of an arc whose end reaches it reaches itself
  pub closed_by : (k : ℕ) (id start end : TxnId) → own ≡ arcs → k < length arcs → id ≡ start_of (get_or own k no_arc) → start ≡ start_of (get_or own k no_arc) → end ≡ end_of (get_or own k no_arc) → Reaches gone received arcs end start → Reaches gone received arcs id id
  closed_by k id start end same within is is_start is_end reached =
      let arc = get_or own k no_arc in
      let there : Reaches gone received arcs (start_of arc) (end_of arc) = by_arc arc (subst (λ (xs : List Arc). Contains arcs (get_or xs k no_arc)) (sym same) (Contains-get_or arcs k no_arc within)) in
      let back : Reaches gone received arcs (end_of arc) (start_of arc) = subst₂ (λ (a b : TxnId). Reaches gone received arcs a b) is_end is_start reached in
      subst (λ (a : TxnId). Reaches gone received arcs a a) (sym is) (through (start_of arc) (end_of arc) (start_of arc) there back)

  -- one more arc is looked at
  pub next_closes_none : (from place : ℕ) (start end : TxnId) → start ≡ start_of (get_or own place no_arc) → end ≡ end_of (get_or own place no_arc) → ((k : ℕ) (d : Arc) → from ≤ k → k < place → ¬ Reaches gone received arcs (end_of (get_or own k d)) (start_of (get_or own k d))) → ¬ Reaches gone received arcs end start
      → place < length own → (k : ℕ) (d : Arc) → from ≤ k → k < place + 1 → ¬ Reaches gone received arcs (end_of (get_or own k d)) (start_of (get_or own k d))
  next_closes_none from place start end is_start is_end before none within k d above below = elim (cases_lt k place) [
    | inl less ↦ before k d above less
    | inr more ↦ λ reached.
        let here : k ≡ place = omega arith in
        let same : get_or own k d ≡ get_or own place no_arc = ap (λ (i : ℕ). get_or own i d) here ∙ get_or_default own place d no_arc within in
        none (subst₂ (λ (a b : TxnId). Reaches gone received arcs a b) (ap (λ (x : Arc). end_of x) same ∙ sym is_end) (ap (λ (x : Arc). start_of x) same ∙ sym is_start) reached)
  ]

-- one more of a session is looked at
pub next_not_on : (gone received : List ℕ) (arcs : List Arc) (session number : ℕ) → ((id : TxnId) → id.session ≡ session → IsThere gone received id → id.number < number → ¬ Reaches gone received arcs id id)
    → ¬ Reaches gone received arcs (record { session = session; number = number }) (record { session = session; number = number }) → (id : TxnId) → id.session ≡ session → IsThere gone received id → id.number < number + 1 → ¬ Reaches gone received arcs id id
next_not_on gone received arcs session number before none id of there below reached = elim (cases_lt id.number number) [
  | inl less ↦ before id of there less reached
  | inr more ↦
      let same : id ≡ record { session = session; number = number } = same_numbers id (record { session = session; number = number }) of (let e : id.number ≡ number = omega arith in e) in
      none (subst (λ (one : TxnId). Reaches gone received arcs one one) same reached)
]

-- one more session is looked at
pub next_session_not_on : (gone received : List ℕ) (arcs : List Arc) (session : ℕ) → ((id : TxnId) → IsThere gone received id → id.session < session → ¬ Reaches gone received arcs id id) → ((id : TxnId) → id.session ≡ session → IsThere gone received id → ¬ Reaches gone received arcs id id)
    → (id : TxnId) → IsThere gone received id → id.session < session + 1 → ¬ Reaches gone received arcs id id
next_session_not_on gone received arcs session before none id there below reached = elim (cases_lt id.session session) [
  | inl less ↦ before id there less reached
  | inr more ↦ none id (let e : id.session ≡ session = omega arith in e) there reached
]
