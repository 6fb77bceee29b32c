-- Graphs to which transactions come, of each session up to some number.
use Rattle.std.proofs.Common.{◌≡◌, ◌∙◌, ℕ, ◌+◌, ◌-◌, ◌<◌, ◌≤◌, List, [], length, get_or, is_some, refl, sym, ap, subst, inl, inr, arith, All}
use Rattle.std.proofs.lemmas.Bool.{cases_eq, cases_lt}
use Rattle.std.proofs.lemmas.List.{get_or_past}
use Rattle.std.proofs.lemmas.List.Elements.{All-nil, All-weaker}
use Rattle.txn.specs.declared.transactions.TxnId.{TxnId}
use Rattle.txn.specs.declared.choices.Arc.{Arc}
use Rattle.order_check.specs.declared.remainder.Parts.{Parts}
use Rattle.order_check.specs.Based.{Remains, mark_of, received_count, remaining_of}
use Rattle.order_check.specs.Cycles.{IsArc}
use Rattle.order_check.specs.Good.{IsGood}
use Rattle.session_clocks.specs.Graphs.{GraphState, HasNode, IsOneMore}
use Rattle.clock_choices.specs.declared.indexing.Index.{Index}
use Rattle.clock_choices.specs.declared.runs.Run.{Run}
use Rattle.clock_choices.specs.Index.{runs_of}
use Rattle.clock_choices.specs.Indexing.{IsIndex}
use Rattle.clock_choices.specs.Runs.{Climbs}
use Rattle.clock_choices.specs.UpTo.{GoesUp, IsGraphUpTo, IsNextReady}
use Rattle.clock_choices.specs.Whole.{IsGraphOf}
use Rattle.clock_choices.specs.Writers.{IsRun}
use Rattle.clock_choices.proofs.Remaining.{bounds_of, bounds_remain}

-- the numbers of each key's runs climb
pub index_climbs : (parts : Parts) (index : Index) → IsIndex parts index → (key : ℕ) → All (λ (run : Run). Climbs run.numbers.items) (runs_of index.writers key)
index_climbs parts index is key = All-weaker IsRun (λ (run : Run). Climbs run.numbers.items) (λ run one. one.climbs) (runs_of index.writers key) (let runs = is.runs key in runs.each)

module _ (parts : Parts) where
  pub goes_none : (graph : GraphState) → IsGraphUpTo parts graph → GoesUp parts graph graph
  goes_none graph is = record { up_to = is; gone = refl; stay = λ s. omega arith }

  pub goes_both : (old mid new : GraphState) → GoesUp parts old mid → GoesUp parts mid new → GoesUp parts old new
  goes_both old mid new first second = record {
    up_to = second.up_to;
    gone = second.gone ∙ first.gone;
    stay = λ s. (let a = first.stay s in let b = second.stay s in omega (arith, a, b));
  }

  -- what was there stays
  pub there_stays : (old new : GraphState) → GoesUp parts old new → (id : TxnId) → HasNode old id → HasNode new id
  there_stays old new goes id there =
      let same = ap (λ (xs : List ℕ). get_or xs id.session 0) goes.gone in
      let more = goes.stay id.session in
      (let low = there.0 in omega (arith, low, same), let high = there.1 in omega (arith, high, more))

  -- one more comes
  module _ (old new : GraphState) (session : ℕ) (is : IsGraphUpTo parts old) (gone : new.gone ≡ old.gone) (one : IsOneMore old.received new.received session) (next : get_or old.received session 0 < received_count parts session) where
    between : (s : ℕ) → (get_or old.received s 0 ≤ get_or new.received s 0) × (get_or new.received s 0 ≤ received_count parts s)
    between s = elim (cases_eq s session) [
      | inl same ↦
          let a = ap (λ (k : ℕ). get_or old.received k 0) same in
          let b = ap (λ (k : ℕ). get_or new.received k 0) same in
          let r = ap (λ (k : ℕ). received_count parts k) same in
          let more = one.one in
          (omega (arith, a, b, more), omega (arith, b, r, more, next))
      | inr apart ↦
          let same = one.others s apart in
          let high = is.high s in
          (omega (arith, same), omega (arith, same, high))
    ]

    pub goes_one : All (IsArc parts []) new.arcs → GoesUp parts old new
    goes_one right = record {
      up_to = record {
        sessions = ap length gone ∙ is.sessions;
        width = one.sessions ∙ is.width ∙ sym (ap length gone);
        marks = λ s. ap (λ (xs : List ℕ). get_or xs s 0) gone ∙ is.marks s;
        low = λ s. (let a = is.low s in let b = (between s).0 in omega (arith, a, b));
        high = λ s. (between s).1;
        right = right;
      };
      gone = gone;
      stay = λ s. (between s).0;
    }

  -- what remains is of a session
  pub session_within : (id : TxnId) → Remains parts id → id.session < length parts.remain
  session_within id remains = elim (cases_lt id.session (length parts.remain)) [
    | inl within ↦ within
    | inr past ↦
        let none = ap length (get_or_past parts.remain id.session [] past) in
        let bounds = bounds_of parts id remains in
        let high = bounds.high in
        absurd (omega (arith, none, high))
  ]

  pub remains_below : (id : TxnId) → Remains parts id → id.number < received_count parts id.session
  remains_below id remains =
      let bounds = bounds_of parts id remains in
      let low = bounds.low in
      let high = bounds.high in
      omega (arith, low, high)

  pub next_below : (graph : GraphState) (session from to : ℕ) → IsNextReady parts graph session from to → get_or graph.received session 0 < received_count parts session
  next_below graph session from to is = remains_below (record { session = session; number = get_or graph.received session 0 }) (ap is_some is.remains)

  -- none has come
  pub up_to_none : (graph : GraphState) → IsGood parts → graph.gone ≡ parts.base.marks → graph.received ≡ parts.base.marks → graph.arcs ≡ [] → IsGraphUpTo parts graph
  up_to_none graph good gone received none =
      let marks = good.marks in
      record {
        sessions = ap length gone ∙ marks;
        width = ap length received ∙ sym (ap length gone);
        marks = λ s. ap (λ (xs : List ℕ). get_or xs s 0) gone;
        low = λ s. (let same = ap (λ (xs : List ℕ). get_or xs s 0) received in omega (arith, same));
        high = λ s. (let same = ap (λ (xs : List ℕ). get_or xs s 0) received in omega (arith, same));
        right = subst (λ (arcs : List Arc). All (IsArc parts []) arcs) (sym none) (All-nil (IsArc parts []));
      }

  -- where all is there, as many were received as of the parts
  module _ (graph : GraphState) (is : IsGraphUpTo parts graph) (all : (id : TxnId) → Remains parts id → HasNode graph id) where
    all_counted : (s : ℕ) → get_or graph.received s 0 ≡ received_count parts s
    all_counted s =
        let low = is.low s in
        let high = is.high s in
        elim (cases_lt 0 (length (remaining_of parts s))) [
          | inl some ↦
              let last : TxnId = record { session = s; number = mark_of parts s + (length (remaining_of parts s) - 1) } in
              let there = (all last (bounds_remain parts last (record { low = omega arith; high = omega (arith, some) }))).1 in
              omega (arith, some, there, high)
          | inr none ↦ omega (arith, none, low, high)
        ]

    pub whole_graph : IsGraphOf parts graph.gone graph.received graph.arcs
    whole_graph = record { sessions = is.sessions; width = is.width; over = record { marks = is.marks; counts = all_counted }; right = is.right }
