-- The open choices of a read, run by run, of a transaction, read by read, and of all that remains.
use Rattle.std.proofs.Common.{◌≡◌, ◌≢◌, ◌⊎◌, ◌↔◌, ◌∙◌, ℕ, ◌+◌, ◌-◌, ◌<◌, ◌≤◌, true, List, Option, Some, drop, length, get_or, take, refl, sym, ap, subst, inl, inr, arith, Contains}
use Rattle.std.specs.Prelude.{IsSomeAnd}
use Rattle.std.specs.List.{AllPairs}
use Rattle.std.proofs.lemmas.Bool.{cases_eq, cases_lt}
use Rattle.std.proofs.lemmas.List.{get_or-drop, get_or-map, get_or-take, get_or_default, length-drop, length-map, length-take-le}
use Rattle.std.proofs.lemmas.List.Elements.{Contains-get_or}
use Rattle.txn.specs.declared.transactions.TxnId.{TxnId}
use Rattle.txn.specs.declared.transactions.Txn.{Txn}
use Rattle.txn.specs.declared.transactions.Source.{Source}
use Rattle.txn.specs.declared.transactions.Source.TheVariants.{By, Init}
use Rattle.txn.specs.declared.choices.Choice.{Choice}
use Rattle.txn.specs.Choices.{choice_below}
use Rattle.txn.specs.Transactions.{id_below, read_below}
use Rattle.order_check.specs.declared.remainder.Parts.{Parts}
use Rattle.order_check.specs.Based.{Remains, remaining_at}
use Rattle.order_check.specs.Known.{IsChoice, ReadsKey, WritesKey}
use Rattle.clock_choices.specs.declared.reads.Read.{Read}
use Rattle.clock_choices.specs.declared.runs.Run.{Run}
use Rattle.clock_choices.specs.Adds.{Among}
use Rattle.clock_choices.specs.Forcing.{choice_of}
use Rattle.clock_choices.specs.Index.{AreRunsOf, IsInRuns, IsRead}
use Rattle.clock_choices.specs.Indexing.{AreInOrder}
use Rattle.clock_choices.specs.Opens.{AreOpenOf, IsFirstOf, IsOfReader, IsOfRun, IsOfSource, IsOpenIn, IsRunOfRead, NoneOpen, choices_at, read_of}
use Rattle.clock_choices.specs.Runs.{Climbs, IsThird}
use Rattle.clock_choices.specs.Spans.{IsOpenAt, IsOpenSpan, IsUndecided, id_at}
use Rattle.clock_choices.specs.Writers.{AreRuns}
use Rattle.clock_choices.proofs.ChoiceOrder.{below_by_key, below_by_other, below_by_reader, below_by_writer, id_below_from, read_cases}
use Rattle.clock_choices.proofs.Remaining.{reader_remains}

-- which choices a session's run makes of a read
pub run_of_read : (parts : Parts) (read : Read) (runs : List Run) → AreRuns runs → AreRunsOf parts read.key runs → IsRead parts read → WritesKey parts read.writer read.key
    → (n : ℕ) (run : Run) → n < length runs → run ≡ get_or runs n run → IsRunOfRead parts read run
run_of_read parts read runs are of reads written n run below is other session = (down, up)
  where
    numbers : List ℕ
    numbers = run.numbers.items

    listed : IsInRuns runs other → Contains numbers other.number
    listed (one, (k, within, at), same, number) = elim (cases_eq k n) [
      | inl place ↦
          let it : one ≡ run = sym at ∙ ap (λ (m : ℕ). get_or runs m one) place ∙ get_or_default runs n one run below ∙ sym is in
          subst (λ (r : Run). Contains r.numbers.items other.number) it number
      | inr apart ↦
          let here : (get_or runs n run).session ≡ run.session = ap (λ (r : Run). r.session) (sym is) in
          let there : (get_or runs k run).session ≡ one.session = ap (λ (r : Run). r.session) (get_or_default runs k run one within ∙ at) in
          elim (cases_lt k n) [
            | inl early ↦ let less = are.rise k n run early below in absurd (omega (arith, less, here, there, same, session))
            | inr late ↦ let less = are.rise n k run (omega arith) within in absurd (omega (arith, less, here, there, same, session))
          ]
    ]

    down : IsChoice parts (choice_of read other) → IsThird run.session numbers read.reader read.writer other
    down choice = record { same = session; listed = listed (of.all other choice.other); not_reader = choice.not_reader; not_writer = choice.not_writer }

    up : IsThird run.session numbers read.reader read.writer other → IsChoice parts (choice_of read other)
    up third = record {
      reads = reads;
      written = written;
      other = of.each other (run, subst (λ (r : Run). Contains runs r) (sym is) (Contains-get_or runs n run below), sym session, third.listed);
      not_writer = third.not_writer;
      not_reader = third.not_reader;
    }

module _ (parts : Parts) (R : TxnId → TxnId → Type 0) (read : Read) where
  -- those of a read with the writers of a run
  module _ (run : Run) (of_run : IsRunOfRead parts read run) (from to : ℕ) (span : IsOpenSpan R read run.session run.numbers.items from to) (climbs : Climbs run.numbers.items) where
    abbrev numbers : List ℕ
    numbers = run.numbers.items

    abbrev id_of : ℕ → TxnId
    id_of place = record { session = run.session; number = get_or numbers place 0 }

    abbrev pub at_place : ℕ → Choice
    at_place place = choice_of read (id_of place)

    pub open_at : (place : ℕ) → from ≤ place → place < to → IsOpenIn parts R (at_place place)
    open_at place low high =
        let within = span.within in
        let here = (span.exact place (omega (arith, within))).0 (low, high) in
        record { choice_of = (of_run (id_at run.session run.numbers.items place) refl).1 here.0; undecided = here.1 }

    pub place_of : (choice : Choice) → IsOpenIn parts R choice → IsOfRun read run choice → (place : ℕ) × (from ≤ place) × (place < to) × (choice ≡ at_place place)
    place_of choice is (of_read, session) =
        let same : choice ≡ choice_of read choice.other = λ i. choice_of (of_read i) choice.other in
        let open_here : IsOpenIn parts R (choice_of read choice.other) = subst (λ (one : Choice). IsOpenIn parts R one) same is in
        let third : IsThird run.session run.numbers.items read.reader read.writer choice.other = (of_run choice.other session).0 open_here.choice_of in
        let k = third.listed.0 in
        let inside = third.listed.1 in
        let number : choice.other.number ≡ get_or run.numbers.items k 0 = sym third.listed.2 ∙ get_or_default run.numbers.items k choice.other.number 0 inside in
        let id : choice.other ≡ id_at run.session run.numbers.items k = λ i. record { session = session i; number = number i } in
        let und : IsUndecided R read choice.other = open_here.undecided in
        let at : IsOpenAt R read run.session run.numbers.items k = (
          subst (λ (one : TxnId). IsThird run.session run.numbers.items read.reader read.writer one) id third,
          subst (λ (one : TxnId). IsUndecided R read one) id und,
        ) in
        let both = (span.exact k inside).1 at in
        (k, both.0, both.1, same ∙ ap (λ (one : TxnId). choice_of read one) id)

    pub place_below : (i j : ℕ) → i < j → j < to → choice_below (at_place i) (at_place j) ≡ true
    place_below i j less high =
        let within = span.within in
        below_by_other (choice_of read (id_of i)) (choice_of read (id_of j)) refl refl refl (id_below_from (id_of i) (id_of j) (inr (refl, climbs i j less (omega (arith, within)))))

    pub none_of_run : to ≤ from → NoneOpen parts R (IsOfRun read run)
    none_of_run past choice is such = let found = place_of choice is such in let low = found.1 in let high = found.2 in absurd (omega (arith, low, high))

    pub first_of_run : from < to → IsFirstOf parts R (IsOfRun read run) (at_place from)
    first_of_run some = record {
      is_open = open_at from (omega arith) some;
      such = (refl, refl);
      first = λ other is such apart. by_place other apart (place_of other is such);
    }
      where
        by_place : (other : Choice) → other ≢ at_place from → (place : ℕ) × (from ≤ place) × (place < to) × (other ≡ at_place place) → choice_below (at_place from) other ≡ true
        by_place other apart (place, low, high, same) = elim (cases_eq place from) [
          | inl first ↦ absurd (apart (same ∙ ap (λ (k : ℕ). at_place k) first))
          | inr later ↦ subst (λ (one : Choice). choice_below (at_place from) one ≡ true) (sym same) (place_below from place (omega arith) high)
        ]

    -- those at the places between, in order
    abbrev own : List Choice
    own = choices_at read run.session (take (to - from) (drop from numbers))

    make : ℕ → Choice
    make number = choice_of read (record { session = run.session; number = number })

    long : length own ≡ to - from
    unfolding make
    long =
        let within = span.within in
        let all = length-drop from numbers in
        length-map (take (to - from) (drop from numbers)) make ∙ length-take-le (to - from) (drop from numbers) (omega (arith, within, all))

    own_at : (k : ℕ) (d : Choice) → k < to - from → get_or own k d ≡ at_place (from + k)
    unfolding make
    own_at k d below =
        let within = span.within in
        let all = length-drop from numbers in
        let len = length-take-le (to - from) (drop from numbers) (omega (arith, within, all)) in
        get_or-map make (take (to - from) (drop from numbers)) k 0 d (omega (arith, len))
        ∙ ap make (get_or-take (to - from) (drop from numbers) k 0 below ∙ get_or-drop from numbers k 0)

    pub open_of_run : AreOpenOf parts R (IsOfRun read run) own
    open_of_run = record {
      rise = λ i j d less within.
          let inside : j < to - from = omega (arith, within, long) in
          subst (λ (one : Choice). choice_below one (get_or own j d) ≡ true) (sym (own_at i d (omega arith)))
          (subst (λ (one : Choice). choice_below (at_place (from + i)) one ≡ true) (sym (own_at j d inside)) (place_below (from + i) (from + j) (omega arith) (omega arith)));
      each = λ choice there.
          let k = there.0 in
          let within = there.1 in
          let inside : k < to - from = omega (arith, within, long) in
          let same : at_place (from + k) ≡ choice = sym (own_at k choice inside) ∙ there.2 in
          (subst (λ (one : Choice). IsOpenIn parts R one) same (open_at (from + k) (omega arith) (omega arith)), subst (λ (one : Choice). IsOfRun read run one) same (refl, refl));
      all = λ choice is such. in_own choice (place_of choice is such);
    }
      where
        in_own : (choice : Choice) → (place : ℕ) × (from ≤ place) × (place < to) × (choice ≡ at_place place) → Contains own choice
        in_own choice (place, low, high, same) =
            let k = place - from in
            let back : from + k ≡ place = omega arith in
            (k, omega (arith, long), own_at k choice (omega arith) ∙ ap (λ (m : ℕ). at_place m) back ∙ sym same)

  -- runs are of later sessions, one after another
  pub runs_apart : (runs : List Run) → AreRuns runs → (i j : ℕ) (d : Run) (a b : Choice) → i < j → j < length runs → IsOfRun read (get_or runs i d) a → IsOfRun read (get_or runs j d) b → choice_below a b ≡ true
  runs_apart runs are i j d a b less within (of_a, session_a) (of_b, session_b) =
      let order = are.rise i j d less within in
      below_by_other a b (ap (λ (r : Read). r.reader) (of_a ∙ sym of_b)) (ap (λ (r : Read). r.key) (of_a ∙ sym of_b)) (ap (λ (r : Read). r.writer) (of_a ∙ sym of_b))
      (id_below_from a.other b.other (inl (omega (arith, order, session_a, session_b))))

  -- each open one of the read is of a run
  pub runs_all : (runs : List Run) → AreRunsOf parts read.key runs → (choice : Choice) → IsOpenIn parts R choice → Among (IsOfRun read) runs choice ↔ (read_of choice ≡ read)
  runs_all runs of choice is = (λ among. let goes = among.2 in goes.0, up)
    where
      up : read_of choice ≡ read → Among (IsOfRun read) runs choice
      up same =
          let writes : WritesKey parts choice.other read.key = subst (λ (key : ℕ). WritesKey parts choice.other key) (ap (λ (r : Read). r.key) same) is.choice_of.other in
          let found = of.all choice.other writes in
          (found.0, found.1, (same, sym found.2))

-- those of a source are those of its read
pub source_is : (parts : Parts) (R : TxnId → TxnId → Type 0) (read : Read) (choice : Choice) → IsOpenIn parts R choice → (read_of choice ≡ read) ↔ IsOfSource read.reader (read.key, By read.writer) choice
source_is parts R read choice is = (down, up)
  where
    down : read_of choice ≡ read → IsOfSource read.reader (read.key, By read.writer) choice
    down same = (ap (λ (r : Read). r.reader) same, λ i. (((sym same) i).key, By ((sym same) i).writer))

    up : IsOfSource read.reader (read.key, By read.writer) choice → read_of choice ≡ read
    up (reader, one) =
        let key : read.key ≡ choice.key = ap (λ (it : ℕ × Source). it.0) one in
        let source : By read.writer ≡ By choice.writer = ap (λ (it : ℕ × Source). it.1) one in
        let writer : read.writer ≡ choice.writer = cc in
        λ i. record { reader = reader i; key = sym key i; writer = sym writer i }

pub none_of_init : (parts : Parts) (R : TxnId → TxnId → Type 0) (reader : TxnId) (key : ℕ) → NoneOpen parts R (IsOfSource reader (key, Init))
none_of_init parts R reader key choice is (same, one) = let source : Init ≡ By choice.writer = ap (λ (it : ℕ × Source). it.1) one in absurd cc

pub none_unwritten : (parts : Parts) (R : TxnId → TxnId → Type 0) (reader : TxnId) (key : ℕ) (writer : TxnId) → ¬ WritesKey parts writer key → NoneOpen parts R (IsOfSource reader (key, By writer))
none_unwritten parts R reader key writer none choice is such =
    let same = (source_is parts R (record { reader = reader; key = key; writer = writer }) choice is).1 such in
    none (subst (λ (r : Read). WritesKey parts r.writer r.key) same is.choice_of.written)

-- reads are in order
pub reads_apart : (reader : TxnId) (reads : List (ℕ × Source)) → AllPairs (λ a b. read_below a b ≡ true) reads → (i j : ℕ) (d : ℕ × Source) (a b : Choice) → i < j → j < length reads → IsOfSource reader (get_or reads i d) a → IsOfSource reader (get_or reads j d) b → choice_below a b ≡ true
reads_apart reader reads rise i j d a b less within (same_a, of_a) (same_b, of_b) = by_part (read_cases (a.key, By a.writer) (b.key, By b.writer) order)
  where
    order : read_below (a.key, By a.writer) (b.key, By b.writer) ≡ true
    order = subst (λ (one : ℕ × Source). read_below one (b.key, By b.writer) ≡ true) of_a (subst (λ (one : ℕ × Source). read_below (get_or reads i d) one ≡ true) of_b (rise i j d less within))

    by_part : (a.key < b.key) ⊎ ((a.key ≡ b.key) × (id_below a.writer b.writer ≡ true)) → choice_below a b ≡ true
    by_part (inl key) = below_by_key a b (same_a ∙ sym same_b) key
    by_part (inr (key, writer)) = below_by_writer a b (same_a ∙ sym same_b) key writer

-- each open one of a reader is of one of its reads
pub reads_all : (parts : Parts) (R : TxnId → TxnId → Type 0) (reader : TxnId) (txn : Txn) → remaining_at parts reader ≡ Some txn → (choice : Choice) → IsOpenIn parts R choice → Among (IsOfSource reader) txn.reads choice ↔ IsOfReader reader choice
reads_all parts R reader txn found choice is = (λ among. let goes = among.2 in goes.0, up)
  where
    up : choice.reader ≡ reader → Among (IsOfSource reader) txn.reads choice
    up same =
        let reads : ReadsKey parts reader choice.key (By choice.writer) = subst (λ (id : TxnId). ReadsKey parts id choice.key (By choice.writer)) same is.choice_of.reads in
        let there : IsSomeAnd (Some txn) (λ (t : Txn). Contains t.reads (choice.key, By choice.writer)) = subst (λ (one : Option Txn). IsSomeAnd one (λ (t : Txn). Contains t.reads (choice.key, By choice.writer))) found reads in
        ((choice.key, By choice.writer), there, (same, refl))

-- readers are in order
pub readers_apart : (ids : List TxnId) → AreInOrder ids → (i j : ℕ) (d : TxnId) (a b : Choice) → i < j → j < length ids → IsOfReader (get_or ids i d) a → IsOfReader (get_or ids j d) b → choice_below a b ≡ true
readers_apart ids rise i j d a b less within of_a of_b =
    below_by_reader a b (subst (λ (one : TxnId). id_below one b.reader ≡ true) (sym of_a) (subst (λ (one : TxnId). id_below (get_or ids i d) one ≡ true) (sym of_b) (rise i j d less within)))

-- each open one is of one that remains
pub readers_all : (parts : Parts) (R : TxnId → TxnId → Type 0) (ids : List TxnId) → ((id : TxnId) → Contains ids id ↔ Remains parts id) → (choice : Choice) → IsOpenIn parts R choice → Among IsOfReader ids choice
readers_all parts R ids all choice is = (choice.reader, (all choice.reader).1 (reader_remains parts choice.reader choice.key (By choice.writer) is.choice_of.reads), refl)
