-- A relation that has caught up with more parts.
use Rattle.std.proofs.Common.{◌≡◌, ◌≢◌, ◌⊎◌, ◌↔◌, ℕ, ◌+◌, ◌<◌, ◌≤◌, List, [], ◌++◌, length, get_or, map, refl, sym, ap, subst, ◌∙◌, inl, inr, arith, Contains, All}
use Rattle.std.proofs.lemmas.List.Elements.{All-append, All-contains, All-weaker, Contains-get_or}
use Rattle.txn.specs.declared.transactions.TxnId.{TxnId}
use Rattle.txn.specs.declared.transactions.Source.TheVariants.{By}
use Rattle.txn.specs.declared.choices.Arc.{Arc}
use Rattle.txn.specs.declared.choices.Arc.TheVariants.{Session, Read, Base, Taken}
use Rattle.txn.specs.Arcs.{start_of, end_of}
use Rattle.order_check.specs.declared.remainder.Parts.{Parts}
use Rattle.order_check.specs.Based.{Remains}
use Rattle.order_check.specs.Cycles.{AreNew, IsArc, Sides, sides_after}
use Rattle.order_check.specs.Known.{Known, ReadsBase, ReadsKey, WritesKey, by_base, by_read, by_session, by_taken, forces_after, forces_before, through}
use Rattle.session_clocks.specs.Graphs.{GraphState}
use Rattle.session_clocks.specs.Reach as reach
use Rattle.session_clocks.specs.Reach.{IsThere, Reaches}
use Rattle.clock_choices.specs.declared.steps.Forced.{Forced}
use Rattle.clock_choices.specs.CatchingUp.{GoesOn}
use Rattle.clock_choices.specs.Closed.{AreKnown, IsClosed, IsPlain}
use Rattle.clock_choices.specs.Extending.{Extends, reached_in}
use Rattle.clock_choices.specs.Forcing.{Forces}
use Rattle.clock_choices.specs.Growth.{IsNotedFor}
use Rattle.clock_choices.specs.Held.{IsHeld}
use Rattle.clock_choices.specs.Linking.{AreNodesOf, Brings, IsTxnLinked}
use Rattle.clock_choices.specs.Logging.{IsLogged}
use Rattle.clock_choices.specs.Nodes.{IsArcThere}
use Rattle.clock_choices.specs.Over.{IsOver}
use Rattle.clock_choices.specs.Pending.{IsClosedBut}
use Rattle.clock_choices.specs.SaturatedState.{AreNewBehind}
use Rattle.clock_choices.specs.Steps.{bare, sides_of}
use Rattle.clock_choices.proofs.Closing.{known_reached, reached_known}
use Rattle.clock_choices.proofs.Extending.{on_new, on_old}
use Rattle.clock_choices.proofs.Growing.{known_grows, reads_base_less, reads_less, writes_less}
use Rattle.clock_choices.proofs.Logged.{forces_known, forces_new, map_both, sides_of_both}
use Rattle.clock_choices.proofs.NewChoices.{closed_with_new, same_or_apart}
use Rattle.clock_choices.proofs.MoreNodes.{new_there, reached_there, reaches_among, reaches_with_nodes}
use Rattle.clock_choices.proofs.Remaining.{reader_remains, writer_remains}
use Rattle.clock_choices.proofs.StepsOn.{logged_forces, logged_linked}
use Rattle.clock_choices.proofs.There.{remains_there, there_remains}

-- what is known is known of what remains
pub known_remain : (parts : Parts) (a b : TxnId) → Known parts [] a b → Remains parts a × Remains parts b
known_remain parts a b (by_session first second same below) = (first, second)
known_remain parts a b (by_read key reads writes) = (writer_remains parts a key writes, reader_remains parts b key (By a) reads)
known_remain parts a b (by_base key reads writes apart) = (reader_remains parts a key reads.0 reads.1, writer_remains parts b key writes)
known_remain parts a b (by_taken there) = absurd (omega (arith, there.1))
known_remain parts a b (through {b = mid} first second) = ((known_remain parts a mid first).0, (known_remain parts mid b second).1)
known_remain parts a b (forces_after choice is known) = (reader_remains parts choice.reader choice.key (By choice.writer) is.reads, writer_remains parts choice.other choice.key is.other)
known_remain parts a b (forces_before choice is known) = (writer_remains parts choice.other choice.key is.other, writer_remains parts choice.writer choice.key is.written)

-- a right arc is known
pub arc_known : (parts : Parts) (arc : Arc) → IsArc parts [] arc → Known parts [] (start_of arc) (end_of arc)
arc_known parts (Session from to) (first, second, same, below) = by_session first second same below
arc_known parts (Read key from to) (reads, writes) = by_read key reads writes
arc_known parts (Base key from to) (reads, writes, apart) = by_base key reads writes apart
arc_known parts (Taken from to) there = by_taken there

pub arcs_there : (parts : Parts) (gone received : List ℕ) (arcs : List Arc) → IsOver parts gone received → AreKnown parts [] arcs → All (IsArcThere gone received) arcs
arcs_there parts gone received arcs over known = All-weaker (λ (arc : Arc). Known parts [] (start_of arc) (end_of arc)) (IsArcThere gone received)
    (λ arc is. let both = known_remain parts (start_of arc) (end_of arc) is in (remains_there parts gone received over (start_of arc) both.0, remains_there parts gone received over (end_of arc) both.1)) arcs known

module _ (parts more : Parts) (gone few received : List ℕ) (arcs : List Arc) (steps : List Forced) (session count : ℕ) (ids : List TxnId) (goes : GoesOn parts more gone few received arcs steps session count ids) where
  abbrev pub first : ℕ
  first = get_or few session 0

  pub nodes_of : AreNodesOf more gone received
  nodes_of = record {
    sessions = (let nodes = goes.nodes in let held = goes.held in nodes.sessions ∙ held.width);
    there = λ id remains. remains_there more gone received goes.over id remains;
  }

  was_there : All (IsArcThere gone few) arcs
  was_there = let held = goes.held in arcs_there parts gone few arcs held.over held.known

  pub new_remain : (id : TxnId) → Contains ids id → Remains more id
  new_remain id there =
      let is = (let of = goes.ids in of.each id there) in
      let held = goes.held in
      let over = goes.over in
      let nodes = goes.nodes in
      by_bounds id is.0 is.1 is.2
    where
      by_bounds : (id : TxnId) → id.session ≡ session → first ≤ id.number → id.number < first + count → Remains more id
      by_bounds id same low high =
          let order = low_first in
          let g : get_or gone id.session 0 ≡ get_or gone session 0 = ap (λ (s : ℕ). get_or gone s 0) same in
          let r : get_or received id.session 0 ≡ first + count = ap (λ (s : ℕ). get_or received s 0) same ∙ (let nodes = goes.nodes in nodes.one) in
          there_remains more gone received goes.over id (omega (arith, g, low, order), omega (arith, r, high))
        where
          -- no more are gone than were received
          low_first : get_or gone session 0 ≤ first
          low_first = let held = goes.held in let over = held.over in let m = over.marks session in let c = over.counts session in omega (arith, m, c)

  pub new_all_remain : All (Remains more) ids
  new_all_remain k d within = new_remain (get_or ids k d) (Contains-get_or ids k d within)

  pub split : (id : TxnId) → Remains more id → Remains parts id ⊎ Contains ids id
  split id remains = elim (new_there gone few received session count goes.nodes id (remains_there more gone received goes.over id remains)) [
    | inl there ↦ inl (let held = goes.held in there_remains parts gone few held.over id there)
    | inr (same, low, high) ↦ inr (let of = goes.ids in of.all id same low high)
  ]

  -- what stood in front of them remained
  in_front : (id : TxnId) → Remains more id → id.session ≡ session → id.number < first → Remains parts id
  in_front id remains same below = elim (split id remains) [
    | inl was ↦ was
    | inr there ↦ absurd (let is = (let of = goes.ids in of.each id there) in let low = is.1 in omega (arith, low, below))
  ]

  not_new : (id : TxnId) → Contains ids id → ¬ IsThere gone few id
  not_new id there was =
      let is = (let of = goes.ids in of.each id there) in
      let low = is.1 in
      let high = was.1 in
      let f : get_or few id.session 0 ≡ first = ap (λ (s : ℕ). get_or few s 0) is.0 in
      omega (arith, low, high, f)

  module _ (marks : List ℕ) (linked : GraphState) (extends : Extends (record { gone = gone; received = received; arcs = arcs; marks = marks }) linked) (start noted due : List TxnId) (here : (id : TxnId) → Contains ids id → Contains start id)
      (brings : Brings more (record { gone = gone; received = received; arcs = arcs; marks = marks }) start linked noted) (stay : (id : TxnId) → Contains noted id → Contains due id)
      (links : All (IsTxnLinked more (reached_in linked) first) ids) (passes : All (IsNotedFor more (reached_in linked) (Contains due)) ids) where
    -- the relation once all that is there from the start is
    abbrev pub R : TxnId → TxnId → Type 0
    R = reached_in linked

    over : IsOver more linked.gone linked.received
    over = on_new (IsOver more) extends goes.over

    lifted : {a b : TxnId} → Reaches gone few arcs a b → R a b
    lifted {a} {b} reached = let growth = brings.growth in growth.reaches a b (reaches_with_nodes gone few received session count goes.nodes arcs reached)

    along : (a b : TxnId) → Remains more a → Remains more b → a.session ≡ b.session → a.number < b.number → R a b
    along a b first second same below = reach.by_session a b (remains_there more linked.gone linked.received over a first) (remains_there more linked.gone linked.received over b second) same below

    is_due : (id : TxnId) → Contains ids id → Contains due id
    is_due id there = let growth = brings.growth in stay id (growth.stay id (here id there))

    -- all that a new one comes to reach is due
    onward : (id other : TxnId) → Contains ids id → R id other → Contains due other
    onward id other new reached = elim (let growth = brings.growth in growth.all id other reached) [
      | inr both ↦ stay other both.1
      | inl was ↦ elim (new_there gone few received session count goes.nodes other (reached_there gone few received session count goes.nodes arcs was_there was)) [
        | inr (same, low, high) ↦ is_due other (let of = goes.ids in of.all other same low high)
        | inl old ↦ absurd (not_new id new (reaches_among gone few received session count goes.nodes arcs was_there was old).1)
      ]
    ]

    -- the choices of the parts are settled, but for what is due
    was_closed : IsClosedBut parts R (Contains due)
    was_closed choice is =
        let held = goes.held in
        let closed = held.closed choice is in
        let reader = remains_there parts gone few held.over choice.reader (reader_remains parts choice.reader choice.key (By choice.writer) is.reads) in
        let other = remains_there parts gone few held.over choice.other (writer_remains parts choice.other choice.key is.other) in
        let growth = brings.growth in
        record {
          before = λ reached. elim (growth.all choice.other choice.reader reached) [
            | inr both ↦ inr (inl (stay choice.reader both.1))
            | inl was ↦ inl (lifted (closed.before (reaches_among gone few received session count goes.nodes arcs was_there was reader).0))
          ];
          behind = λ reached. elim (growth.all choice.writer choice.other reached) [
            | inr both ↦ inr (inr (stay choice.writer both.0))
            | inl was ↦ inl (lifted (closed.behind (reaches_among gone few received session count goes.nodes arcs was_there was other).0))
          ];
        }

    pub closed_but_due : IsClosedBut more R (Contains due)
    closed_but_due = closed_with_new parts more goes.are R (Contains ids) (Contains due) along (λ a b c one two. reach.through a b c one two) split is_due was_closed onward (λ id there. All-contains (IsNotedFor more R (Contains due)) ids id passes there)

    link_of : (id : TxnId) → Contains ids id → IsTxnLinked more R first id
    link_of id there = All-contains (IsTxnLinked more R first) ids id links there

    old_base : (reader other : TxnId) (key : ℕ) → ReadsBase more reader key → WritesKey more other key → other ≢ reader → Remains parts reader → Remains parts other → R reader other
    old_base reader other key read written apart was_reader was_other =
        let held = goes.held in
        let plain = held.plain in
        lifted (plain.base reader other key (reads_base_less parts more reader key goes.are was_reader read) (writes_less parts more other key goes.are was_other written) apart)

    -- it leads along all that is there from the start
    pub plain_more : IsPlain more (sides_of steps) R
    plain_more = record { reads = reads; base = base; sides = λ a b there. let held = goes.held in let plain = held.plain in lifted (plain.sides a b there) }
      where
        reads : (reader writer : TxnId) (key : ℕ) → ReadsKey more reader key (By writer) → WritesKey more writer key → R writer reader
        reads reader writer key read written = elim (split reader (reader_remains more reader key (By writer) read)) [
          | inr new ↦ let of = link_of reader new in of.reads reader writer key (inl refl) read written
          | inl was_reader ↦ elim (split writer (writer_remains more writer key written)) [
            | inr new ↦ let of = link_of writer new in of.reads reader writer key (inr refl) read written
            | inl was_writer ↦ let held = goes.held in let plain = held.plain in lifted (plain.reads reader writer key (reads_less parts more reader key (By writer) goes.are was_reader read) (writes_less parts more writer key goes.are was_writer written))
          ]
        ]

        base : (reader other : TxnId) (key : ℕ) → ReadsBase more reader key → WritesKey more other key → other ≢ reader → R reader other
        base reader other key read written apart = elim (split reader (reader_remains more reader key read.0 read.1)) [
          | inr new ↦ let of = link_of reader new in of.base other key read written apart
          | inl was_reader ↦ elim (split other (writer_remains more other key written)) [
            | inl was_other ↦ old_base reader other key read written apart was_reader was_other
            | inr new ↦ elim (let of = link_of other new in of.writes reader key read written apart) [
              | inl reached ↦ reached
              | inr two ↦
                  let place = (let of = goes.ids in of.each other new) in
                  let low : TxnId = record { session = other.session; number = two.low } in
                  let high : TxnId = record { session = other.session; number = two.high } in
                  let order = two.order in
                  let below = two.below in
                  let from = place.1 in
                  let low_was = in_front low (writer_remains more low key two.low_writes) place.0 (omega (arith, order, below)) in
                  let high_was = in_front high (writer_remains more high key two.high_writes) place.0 (omega (arith, below)) in
                  elim (same_or_apart low reader) [
                    | inr not_low ↦ reach.through reader low other (old_base reader low key read two.low_writes not_low was_reader low_was) (along low other (writer_remains more low key two.low_writes) (writer_remains more other key written) refl (omega (arith, order, below, from)))
                    | inl is_low ↦
                        let not_high : high ≢ reader = λ same. (let n = ap (λ (x : TxnId). x.number) (is_low ∙ sym same) in omega (arith, n, order)) in
                        reach.through reader high other (old_base reader high key read two.high_writes not_high was_reader high_was) (along high other (writer_remains more high key two.high_writes) (writer_remains more other key written) refl (omega (arith, below, from)))
                  ]
            ]
          ]
        ]

    -- its arcs are known
    pub linked_known : AreKnown more [] linked.arcs
    linked_known = subst (λ (some : List Arc). AreKnown more [] some) (sym brings.is)
        (All-append (λ (arc : Arc). Known more [] (start_of arc) (end_of arc)) arcs brings.added
        (All-weaker (λ (arc : Arc). Known parts [] (start_of arc) (end_of arc)) (λ (arc : Arc). Known more [] (start_of arc) (end_of arc)) (λ arc is. known_grows parts more [] (start_of arc) (end_of arc) goes.are is) arcs (let held = goes.held in held.known))
        (All-weaker (IsArc more []) (λ (arc : Arc). Known more [] (start_of arc) (end_of arc)) (λ arc is. arc_known more arc is) brings.added brings.right))

    linked_logged : IsLogged more linked.gone linked.received linked.arcs steps
    linked_logged =
        let held = goes.held in
        on_new (λ g r. IsLogged more g r linked.arcs steps) extends (subst (λ (some : List Arc). IsLogged more gone received some steps) (sym brings.is)
        (logged_linked parts more gone few received session count arcs brings.added steps goes.are held.over goes.nodes was_there brings.right held.logged))

    -- what was forced from there is held of more parts, and each step is new
    module _ (closed : GraphState) (on : Extends linked closed) (new : List Forced) (forces : Forces more linked [] closed new) where
      are_new : AreNew more (sides_of steps) (map bare new) × IsPlain more (sides_after (sides_of steps) (map bare new)) (Reaches linked.gone linked.received closed.arcs)
      are_new = forces_new more linked.gone linked.received over (sides_of steps) linked.arcs closed.arcs new plain_more forces

      pub held_more : length gone ≡ length more.remain → IsClosed more (reached_in closed) → IsHeld more closed.gone closed.received closed.arcs (steps ++ new)
      held_more sessions settled =
          let nodes = nodes_of in
          on_new (λ g r. IsHeld more g r closed.arcs (steps ++ new)) on record {
            sessions = on_new (λ g r. length g ≡ length more.remain) extends sessions;
            width = on_new (λ g r. length r ≡ length g) extends nodes.sessions;
            over = over;
            known = forces_known more linked.gone linked.received over linked.arcs [] closed.arcs new linked_known forces;
            plain = subst (λ (xs : Sides). IsPlain more xs (Reaches linked.gone linked.received closed.arcs)) (sym (sides_of_both steps new)) are_new.1;
            closed = on_old (λ g r. IsClosed more (Reaches g r closed.arcs)) on settled;
            logged = logged_forces more linked.gone linked.received linked.arcs closed.arcs steps new over linked_logged plain_more forces;
          }

      pub logged_more : AreNewBehind more (map bare steps) (map bare (steps ++ new))
      logged_more = (map bare new, map_both steps new, are_new.0)

-- what is reached is what is known
pub held_known : (parts : Parts) (gone received : List ℕ) (arcs : List Arc) (steps : List Forced) → IsHeld parts gone received arcs steps → (a b : TxnId) → Reaches gone received arcs a b ↔ Known parts [] a b
held_known parts gone received arcs steps held a b = (
  (λ is. reached_known parts [] gone received arcs held.over held.known is),
  (λ is. known_reached parts [] gone received arcs held.over plain held.closed is),
)
  where
    plain : IsPlain parts [] (Reaches gone received arcs)
    plain = let was = held.plain in record { reads = was.reads; base = was.base; sides = λ c d there. absurd (omega (arith, there.1)) }
