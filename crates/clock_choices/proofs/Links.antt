-- Arcs that are there from the start, as they are added.
use Rattle.std.proofs.Common.{◌≡◌, ◌≢◌, ◌⊎◌, ℕ, ◌+◌, ◌<◌, ◌≤◌, List, [], ◌∷◌, ◌++◌, length, get_or, take, Option, Some, IsSomeAnd, refl, sym, ap, subst, ◌∙◌, inl, inr, arith, append-nil, append_assoc, Contains, All}
use Rattle.std.proofs.lemmas.Bool.{cases_lt}
use Rattle.std.proofs.lemmas.List.{get_or_past}
use Rattle.std.proofs.lemmas.List.Elements.{All-append, All-contains, All-cons, All-more, All-nil, All-weaker, Contains-get_or}
use Rattle.txn.specs.declared.transactions.TxnId.{TxnId}
use Rattle.txn.specs.declared.transactions.Txn.{Txn}
use Rattle.txn.specs.declared.transactions.Source.{Source}
use Rattle.txn.specs.declared.transactions.Source.TheVariants.{By}
use Rattle.txn.specs.declared.choices.Arc.{Arc}
use Rattle.txn.specs.declared.choices.Arc.TheVariants.{Base}
use Rattle.txn.specs.History.{writes_key}
use Rattle.order_check.specs.declared.remainder.Parts.{Parts}
use Rattle.order_check.specs.Based.{remaining_at}
use Rattle.order_check.specs.Cycles.{IsArc}
use Rattle.order_check.specs.Known.{ReadsBase, ReadsKey, WritesKey}
use Rattle.session_clocks.specs.Graphs.{GraphState}
use Rattle.session_clocks.specs.Reach.{IsThere, Reaches}
use Rattle.clock_choices.specs.declared.indexing.Index.{Index}
use Rattle.clock_choices.specs.declared.reads.Read as reads
use Rattle.clock_choices.specs.declared.runs.Run.{Run}
use Rattle.clock_choices.specs.Extending.{reached_in}
use Rattle.clock_choices.specs.Forcing.{IsGrowth}
use Rattle.clock_choices.specs.Index.{AreRunsOf, IsInRuns, IsRunThere, WriterRuns, reads_of, runs_of}
use Rattle.clock_choices.specs.Indexing.{IsIndex}
use Rattle.clock_choices.specs.Linking.{AreNodesOf, AreRunLinked, AreWritersLinked, Brings, HasEarlier, HasTwoBelow, IsBaseLinked, IsBeforeRun, IsLinked, IsSessionLinked, IsTxnLinked}
use Rattle.clock_choices.specs.Lists.{list_at}
use Rattle.clock_choices.specs.Runs.{AreBelow, Climbs, IsFirstThird, IsThird}
use Rattle.clock_choices.specs.Writers.{IsRun}
use Rattle.clock_choices.proofs.Growths.{growth_both, growth_none, then_along}
use Rattle.clock_choices.proofs.Indexed.{some_writes}
use Rattle.clock_choices.proofs.Remaining.{reader_remains, writer_remains}
use Rattle.clock_choices.proofs.Settled.{same_there, take_all}

module _ (parts : Parts) where
  pub brings_none : (graph : GraphState) (due : List TxnId) → Brings parts graph due graph due
  brings_none graph due = record { added = []; is = sym (append-nil graph.arcs); right = All-nil (IsArc parts []); growth = growth_none (reached_in graph) due }

  pub brings_both : {old mid new : GraphState} {due between then : List TxnId} → Brings parts old due mid between → Brings parts mid between new then → Brings parts old due new then
  brings_both {old} first second = record {
    added = first.added ++ second.added;
    is = second.is ∙ ap (λ (some : List Arc). some ++ second.added) first.is ∙ append_assoc old.arcs first.added second.added;
    right = All-append (IsArc parts []) first.added second.added first.right second.right;
    growth = growth_both first.growth second.growth;
  }

  pub brings_one : {old new : GraphState} {due then : List TxnId} (arc : Arc) → new.arcs ≡ old.arcs ++ arc ∷ [] → IsArc parts [] arc → IsGrowth (reached_in old) due (reached_in new) then → Brings parts old due new then
  brings_one arc is right growth = record { added = arc ∷ []; is = is; right = All-cons (IsArc parts []) arc [] right (All-nil (IsArc parts [])); growth = growth }

  -- what has its arcs keeps them, and one more has its own
  pub brings_more : {X : Type 0} (P : (TxnId → TxnId → Type 0) → X → Type 0) (xs : List X) (k : ℕ) (d : X) {x : X} {start mid more : GraphState} {due between then : List TxnId} → k < length xs → x ≡ get_or xs k d
      → ((R S : TxnId → TxnId → Type 0) → ((a b : TxnId) → R a b → S a b) → (x : X) → P R x → P S x)
      → Brings parts start due mid between × All (P (reached_in mid)) (take k xs) → Brings parts mid between more then × P (reached_in more) x → Brings parts start due more then × All (P (reached_in more)) (take (k + 1) xs)
  brings_more P xs k d {mid = mid} {more = more} within is stays first second = (
    brings_both first.0 second.0,
    All-more (P (reached_in more)) xs k d within (All-weaker (P (reached_in mid)) (P (reached_in more)) (λ x is. stays (reached_in mid) (reached_in more) (let growth = second.0.growth in growth.reaches) x is) (take k xs) first.1) (subst (P (reached_in more)) is second.1),
  )

-- all is more than what the first so many say
pub all_taken : {X : Type 0} (P : X → Type 0) (xs : List X) (k : ℕ) → length xs ≤ k → All P (take k xs) → All P xs
all_taken {X} P xs k past all = subst (λ (some : List X). All P some) (take_all xs k past) all

-- more is reached
module _ (R S : TxnId → TxnId → Type 0) (more : (a b : TxnId) → R a b → S a b) where
  pub linked_stays : (parts : Parts) (read : reads.Read) → IsLinked parts R read → IsLinked parts S read
  linked_stays parts read is written = more read.writer read.reader (is written)

  pub before_run_stays : (reader : TxnId) (run : Run) → IsBeforeRun R reader run → IsBeforeRun S reader run
  before_run_stays reader run is other third = more reader other (is other third)

  pub base_linked_stays : (parts : Parts) (writers : WriterRuns) (reader : TxnId) (read : ℕ × Source) → IsBaseLinked parts R writers reader read → IsBaseLinked parts S writers reader read
  base_linked_stays parts writers reader read is base = All-weaker (IsBeforeRun R reader) (IsBeforeRun S reader) (λ run before. before_run_stays reader run before) (runs_of writers read.0) (is base)

  pub run_linked_stays : (first : ℕ) (readers : List TxnId) (run : Run) → AreRunLinked R first readers run → AreRunLinked S first readers run
  run_linked_stays first readers run (inl two) = inl two
  run_linked_stays first readers run (inr all) = inr (All-weaker (λ (reader : TxnId). IsBeforeRun R reader run) (λ (reader : TxnId). IsBeforeRun S reader run) (λ reader before. before_run_stays reader run before) readers all)

  pub session_linked_stays : (session first : ℕ) (readers : List TxnId) (run : Run) → IsSessionLinked R session first readers run → IsSessionLinked S session first readers run
  session_linked_stays session first readers run is same = run_linked_stays first readers run (is same)

  pub writers_linked_stay : (index : Index) (session first key : ℕ) → AreWritersLinked R index session first key → AreWritersLinked S index session first key
  writers_linked_stay index session first key is = All-weaker (IsSessionLinked R session first (list_at index.base key)) (IsSessionLinked S session first (list_at index.base key)) (λ run one. session_linked_stays session first (list_at index.base key) run one) (runs_of index.writers key) is

  pub txn_linked_stays : (parts : Parts) (first : ℕ) (id : TxnId) → IsTxnLinked parts R first id → IsTxnLinked parts S first id
  txn_linked_stays parts first id is = record {
    reads = λ reader writer key takes read written. more writer reader (is.reads reader writer key takes read written);
    base = λ other key read written apart. more id other (is.base other key read written apart);
    writes = λ reader key read written apart. elim (is.writes reader key read written apart) [ inl reached ↦ inl (more reader id reached) | inr two ↦ inr two ];
  }

-- the first other writer in a run stands for those behind it
module _ (gone received : List ℕ) (reader : TxnId) (run : Run) (there : IsRunThere gone received run) where
  third_there : (other : TxnId) → IsThird run.session run.numbers.items reader reader other → IsThere gone received other
  third_there other third = same_there gone received run.session other (sym third.same) (there.there other.number third.listed)

  pub before_run : (arcs : List Arc) (first : TxnId) → IsFirstThird run.session run.numbers.items reader reader 0 first → Reaches gone received arcs reader first → IsBeforeRun (Reaches gone received arcs) reader run
  before_run arcs first is_first reached other third =
      then_along gone received arcs reader first other (third_there first is_first.third) (third_there other third) (is_first.third.same ∙ sym third.same) (is_first.each other third (omega arith)) reached

  pub first_third_there : (first : TxnId) → IsFirstThird run.session run.numbers.items reader reader 0 first → IsThere gone received first
  first_third_there first is_first = third_there first is_first.third

-- an arc from a reader of the base to another writer in a run of the key is right
pub base_arc_right : (parts : Parts) (key : ℕ) (runs : List Run) (run : Run) (reader other : TxnId) → AreRunsOf parts key runs → Contains runs run → ReadsBase parts reader key → IsThird run.session run.numbers.items reader reader other → IsArc parts [] (Base key reader other)
base_arc_right parts key runs run reader other are there reads third = (reads, are.each other (run, there, sym third.same, third.listed), third.not_reader)

-- two numbers at the front are below
pub two_below : (numbers : List ℕ) (first count : ℕ) → Climbs numbers → AreBelow numbers first count → 2 ≤ count → HasTwoBelow numbers first
two_below numbers first count climbs are two =
    let within = are.within in
    record { two = omega (arith, within, two); order = climbs 0 1 (omega arith) (omega (arith, within, two)); below = are.low 1 (omega (arith, two)) }

-- what is linked of a transaction
module _ (parts : Parts) (R : TxnId → TxnId → Type 0) (index : Index) (is : IsIndex parts index) (first : ℕ) (id : TxnId) (txn : Txn) (found : remaining_at parts id ≡ Some txn)
    (by_reads : All (IsLinked parts R) (reads_of index.reads.items id)) (by_base : All (IsBaseLinked parts R index.writers id) txn.reads) (by_writes : All (AreWritersLinked R index id.session first) txn.writes) where
  reads_linked : (reader writer : TxnId) (key : ℕ) → (reader ≡ id) ⊎ (writer ≡ id) → ReadsKey parts reader key (By writer) → WritesKey parts writer key → R writer reader
  reads_linked reader writer key takes read written =
      let one : reads.Read = record { reader = reader; key = key; writer = writer } in
      All-contains (IsLinked parts R) (reads_of index.reads.items id) one by_reads ((is.reads id).all one read takes) written

  base_linked : (other : TxnId) (key : ℕ) → ReadsBase parts id key → WritesKey parts other key → other ≢ id → R id other
  base_linked other key (source, read, base) written apart =
      let there : Contains txn.reads (key, source) = subst (λ (t : Option Txn). IsSomeAnd t (λ one. Contains one.reads (key, source))) found read in
      let run = (is.writers key).all other written in
      All-contains (IsBeforeRun R id) (runs_of index.writers key) run.0 (All-contains (IsBaseLinked parts R index.writers id) txn.reads (key, source) by_base there base) run.1
      other (record { same = sym run.2; listed = run.3; not_reader = apart; not_writer = apart })

  writes_linked : (reader : TxnId) (key : ℕ) → ReadsBase parts reader key → WritesKey parts id key → id ≢ reader → R reader id ⊎ HasEarlier parts key id.session first
  writes_linked reader key read written apart =
      let there : Contains txn.writes key = some_writes txn key (ap (λ (t : Option Txn). writes_key t key) (sym found) ∙ written) in
      let run = (is.writers key).all id written in
      by_run run.0 run.1 run.2 run.3 (All-contains (IsSessionLinked R id.session first (list_at index.base key)) (runs_of index.writers key) run.0 (All-contains (AreWritersLinked R index id.session first) txn.writes key by_writes there) run.1 run.2)
    where
      by_run : (run : Run) → Contains (runs_of index.writers key) run → run.session ≡ id.session → Contains run.numbers.items id.number → AreRunLinked R first (list_at index.base key) run → R reader id ⊎ HasEarlier parts key id.session first
      by_run run there same number (inr all) = inl (All-contains (λ (one : TxnId). IsBeforeRun R one run) (list_at index.base key) reader all ((is.base key).all reader read) id (record { same = sym same; listed = number; not_reader = apart; not_writer = apart }))
      by_run run there same number (inl two) =
          let within = two.two in
          inr record {
            low = get_or run.numbers.items 0 0;
            high = get_or run.numbers.items 1 0;
            order = two.order;
            below = two.below;
            low_writes = (is.writers key).each (record { session = id.session; number = get_or run.numbers.items 0 0 }) (run, there, same, Contains-get_or run.numbers.items 0 0 (omega (arith, within)));
            high_writes = (is.writers key).each (record { session = id.session; number = get_or run.numbers.items 1 0 }) (run, there, same, Contains-get_or run.numbers.items 1 0 (omega (arith, within)));
          }

  pub txn_linked : IsTxnLinked parts R first id
  txn_linked = record { reads = reads_linked; base = base_linked; writes = writes_linked }

-- a number below another one that a list has at a place has the place within the list
within_by : (xs : List ℕ) (i n : ℕ) → n < get_or xs i 0 → i < length xs
within_by xs i n below = elim (cases_lt i (length xs)) [
  | inl within ↦ within
  | inr past ↦ absurd (let none = get_or_past xs i 0 past in omega (arith, none, below))
]

-- what is looked up is there
module _ (parts : Parts) (gone received : List ℕ) (index : Index) (is : IsIndex parts index) (nodes : AreNodesOf parts gone received) where
  writer_there : (key : ℕ) (id : TxnId) → IsInRuns (runs_of index.writers key) id → IsThere gone received id
  writer_there key id found = nodes.there id (writer_remains parts id key ((is.writers key).each id found))

  pub index_there : (key : ℕ) → All (IsRunThere gone received) (runs_of index.writers key)
  index_there key k d within = run_there (get_or (runs_of index.writers key) k d) (Contains-get_or (runs_of index.writers key) k d within) (let runs = is.runs key in runs.each k d within)
    where
      run_there : (run : Run) → Contains (runs_of index.writers key) run → IsRun run → IsRunThere gone received run
      run_there run there of =
          let numbers = run.numbers.items in
          let some = of.some in
          let at : (number : ℕ) → Contains numbers number → IsThere gone received (record { session = run.session; number = number }) = λ number has. writer_there key (record { session = run.session; number = number }) (run, there, refl, has) in
          let one = at (get_or numbers 0 0) (Contains-get_or numbers 0 0 some) in
          let within = within_by received run.session (get_or numbers 0 0) one.1 in
          let width = nodes.sessions in
          record { session = omega (arith, within, width); climbs = of.climbs; there = at }

  pub base_readers : (key : ℕ) → All (λ reader. ReadsBase parts reader key) (list_at index.base key)
  base_readers key k d within = (is.base key).each (get_or (list_at index.base key) k d) (Contains-get_or (list_at index.base key) k d within)

  pub readers_there : (key : ℕ) → All (IsThere gone received) (list_at index.base key)
  readers_there key k d within =
      let reads = base_readers key k d within in
      nodes.there (get_or (list_at index.base key) k d) (reader_remains parts (get_or (list_at index.base key) k d) key reads.0 reads.1)

  pub reads_are : (id : TxnId) → All (λ read. IsThere gone received read.reader) (reads_of index.reads.items id)
  reads_are id k d within =
      let read = get_or (reads_of index.reads.items id) k d in
      nodes.there read.reader (reader_remains parts read.reader read.key (By read.writer) ((is.reads id).each k d within))

-- the reads, the reads of the base and the writes of a transaction are linked, one after another
pub txn_brings : (parts : Parts) (index : Index) (first : ℕ) (id : TxnId) (txn : Txn) {old linked based new : GraphState} {due one two then : List TxnId} → IsIndex parts index → remaining_at parts id ≡ Some txn
    → Brings parts old due linked one × All (IsLinked parts (reached_in linked)) (reads_of index.reads.items id)
    → Brings parts linked one based two × All (IsBaseLinked parts (reached_in based) index.writers id) txn.reads
    → Brings parts based two new then × All (AreWritersLinked (reached_in new) index id.session first) txn.writes
    → Brings parts old due new then × IsTxnLinked parts (reached_in new) first id
txn_brings parts index first id txn {linked = linked} {based = based} {new = new} is found by_reads by_base by_writes =
    let on = by_writes.0.growth in
    let both = brings_both parts by_base.0 by_writes.0 in
    let all_on = both.growth in
    let R = reached_in new in (
      brings_both parts by_reads.0 both,
      txn_linked parts R index is first id txn found
          (All-weaker (IsLinked parts (reached_in linked)) (IsLinked parts R) (λ read link. linked_stays (reached_in linked) R all_on.reaches parts read link) (reads_of index.reads.items id) by_reads.1)
          (All-weaker (IsBaseLinked parts (reached_in based) index.writers id) (IsBaseLinked parts R index.writers id) (λ read link. base_linked_stays (reached_in based) R on.reaches parts index.writers id read link) txn.reads by_base.1)
          by_writes.1,
    )

-- what a transaction is seen to read it reads
pub all_read : (parts : Parts) (id : TxnId) (txn : Txn) → remaining_at parts id ≡ Some txn → All (λ read. ReadsKey parts id read.0 read.1) txn.reads
all_read parts id txn found k d within = subst (λ (t : Option Txn). IsSomeAnd t (λ one. Contains one.reads (get_or txn.reads k d))) (sym found) (Contains-get_or txn.reads k d within)
