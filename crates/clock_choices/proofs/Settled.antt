-- Reads that are settled, but for those that are due.
use Rattle.std.proofs.Common.{◌≡◌, ◌⊎◌, ℕ, zero, suc, ◌+◌, ◌<◌, ◌≤◌, ◌++◌, Vec, Global, ◌∷◌, List, [], length, get_or, take, refl, sym, ap, subst, ◌∙◌, inl, inr, arith, Contains, All}
use Rattle.std.proofs.lemmas.List.{take_more}
use Rattle.std.proofs.lemmas.List.Elements.{All-contains, Contains-append_left, Contains-get_or, Contains-push, Contains-push_cases}
use Rattle.std.specs.BTreeMap.{BTreeMap}
use Rattle.txn.specs.declared.transactions.TxnId.{TxnId}
use Rattle.txn.specs.declared.choices.Choice.{Choice}
use Rattle.order_check.specs.declared.remainder.Parts.{Parts}
use Rattle.order_check.specs.Known.{IsChoice}
use Rattle.session_clocks.specs.Reach.{IsThere}
use Rattle.clock_choices.specs.declared.reads.Read.{Read}
use Rattle.clock_choices.specs.declared.runs.Run.{Run}
use Rattle.clock_choices.specs.Closed.{IsClosed}
use Rattle.clock_choices.specs.Due.{AreNoted}
use Rattle.clock_choices.specs.Forcing.{AreRunChoices, IsGrowth, IsOther, IsRunSettled, choice_of}
use Rattle.clock_choices.specs.Index.{AreReadsOf, AreRunsOf, IsInRuns, IsRead, IsRunThere, ReadLists, reads_at, reads_in}
use Rattle.clock_choices.specs.Pending.{IsClosedBut, IsDue, IsSettledBut}
use Rattle.clock_choices.specs.Stages.{IsLeftTo, IsReadSettled, IsTurnSettled, IsTxnSettled}

-- a session and a number make a transaction
pub same_there : (gone received : List ℕ) (session : ℕ) (id : TxnId) → session ≡ id.session → IsThere gone received (record { session = session; number = id.number }) → IsThere gone received id
same_there gone received session id same there = subst (λ (s : ℕ). IsThere gone received (record { session = s; number = id.number })) same there

-- a writer that is in a run is there
pub in_runs_there : (gone received : List ℕ) (runs : List Run) (id : TxnId) → All (IsRunThere gone received) runs → IsInRuns runs id → IsThere gone received id
in_runs_there gone received runs id are found =
    let is = All-contains (IsRunThere gone received) runs found.0 are found.1 in
    same_there gone received found.0.session id found.2 (is.there id.number found.3)

module _ (parts : Parts) (read : Read) (runs : List Run) (are : AreRunsOf parts read.key runs) where
  -- each other writer in a run makes a choice of a read from a writer of its key
  pub runs_choices : IsRead parts read → IsInRuns runs read.writer → All (AreRunChoices parts read) runs
  runs_choices is written k d within other third = record {
    reads = is;
    written = are.each read.writer written;
    other = are.each other (get_or runs k d, Contains-get_or runs k d within, sym third.same, third.listed);
    not_writer = third.not_writer;
    not_reader = third.not_reader;
  }

  third_of : (other : TxnId) → IsChoice parts (choice_of read other) → (found : IsInRuns runs other) → IsOther read found.0 other
  third_of other is found = record {
    same = sym found.2;
    listed = found.3;
    not_reader = is.not_reader;
    not_writer = is.not_writer;
  }

  pub read_settled : {R : TxnId → TxnId → Type 0} (told due then : List TxnId) → AreNoted due then told → All (IsRunSettled R told read) runs → IsReadSettled parts R then read
  read_settled {R} told due then noted settled other is =
      let found = are.all other is.other in
      let of = All-contains (IsRunSettled R told read) runs found.0 settled found.1 in
      let third = third_of other is found in
      record {
        before = λ reached. elim (of.before other third reached) [ inl there ↦ inl there | inr is_told ↦ inr (inl (noted.here read.reader is_told)) ];
        behind = λ reached. elim (of.behind other third reached) [ inl there ↦ inl there | inr is_told ↦ inr (inr (noted.here read.writer is_told)) ];
      }

-- a read from one that doesn't write its key has no choice
pub unwritten_settled : (parts : Parts) (read : Read) (runs : List Run) {R : TxnId → TxnId → Type 0} (due : List TxnId) → AreRunsOf parts read.key runs → ¬ IsInRuns runs read.writer → IsReadSettled parts R due read
unwritten_settled parts read runs due are none other is = absurd (none (are.all read.writer is.written))

-- whoever is told is noted
pub growth_noted : {R S : TxnId → TxnId → Type 0} {told due then : List TxnId} → IsGrowth R [] S told → AreNoted due then told → IsGrowth R due S then
growth_noted growth noted = record {
  reaches = growth.reaches;
  stay = noted.stay;
  all = λ a b is. elim (growth.all a b is) [ inl was ↦ inl was | inr both ↦ inr (noted.here a both.0, noted.here b both.1) ];
  only = λ id there. elim (noted.only id there) [
    | inl was ↦ inl was
    | inr is_told ↦ elim (growth.only id is_told) [ inl none ↦ absurd (omega (arith, none.1)) | inr grown ↦ inr grown ]
  ];
}

module _ {R S : TxnId → TxnId → Type 0} {due then : List TxnId} (growth : IsGrowth R due S then) where
  due_stays : (choice : Choice) → IsDue (λ id. Contains due id) choice → IsDue (λ id. Contains then id) choice
  due_stays choice (inl there) = inl (growth.stay choice.reader there)
  due_stays choice (inr there) = inr (growth.stay choice.writer there)

  -- what is settled stays so as the relation grows
  pub choice_stays : (choice : Choice) → IsSettledBut R (λ id. Contains due id) choice → IsSettledBut S (λ id. Contains then id) choice
  choice_stays choice settled = record {
    before = λ is. elim (growth.all choice.other choice.reader is) [
      | inr both ↦ inr (inl both.1)
      | inl was ↦ elim (settled.before was) [ inl there ↦ inl (growth.reaches choice.other choice.writer there) | inr is_due ↦ inr (due_stays choice is_due) ]
    ];
    behind = λ is. elim (growth.all choice.writer choice.other is) [
      | inr both ↦ inr (inr both.0)
      | inl was ↦ elim (settled.behind was) [ inl there ↦ inl (growth.reaches choice.reader choice.other there) | inr is_due ↦ inr (due_stays choice is_due) ]
    ];
  }

  pub read_stays : (parts : Parts) (read : Read) → IsReadSettled parts R due read → IsReadSettled parts S then read
  read_stays parts read settled other is = choice_stays (choice_of read other) (settled other is)

  pub turn_stays : (parts : Parts) (batch : List TxnId) (id : TxnId) → IsTurnSettled parts R due batch id → IsTurnSettled parts S then batch id
  turn_stays parts batch id done read is takes = elim (done read is takes) [ inl settled ↦ inl (read_stays parts read settled) | inr left ↦ inr left ]

-- some of the reads
pub among_reads : (P : Read → Type 0) (reads turn : List Read) → ((read : Read) → Contains turn read → Contains reads read) → All P reads → All P turn
among_reads P reads turn each all k d within = All-contains P reads (get_or turn k d) all (each (get_or turn k d) (Contains-get_or turn k d within))

-- in its turn its reads are settled, or left to their readers' turns
pub turn_settled : (parts : Parts) (R : TxnId → TxnId → Type 0) (due batch : List TxnId) (id : TxnId) (reads turn : List Read) → AreReadsOf parts id reads
    → ((read : Read) → Contains reads read → Contains turn read ⊎ IsLeftTo batch id read) → All (IsReadSettled parts R due) turn → IsTurnSettled parts R due batch id
turn_settled parts R due batch id reads turn are all settled read is takes = elim (all read (are.all read is takes)) [
  | inl there ↦ inl (All-contains (IsReadSettled parts R due) turn read settled there)
  | inr left ↦ inr left
]

-- one more is put among those of the turn, or left
pub turn_more : (batch : List TxnId) (id : TxnId) (reads old new : List Read) (k : ℕ) (d : Read) → k < length reads → ((read : Read) → Contains old read → Contains reads read) → ((read : Read) → Contains (take k reads) read → Contains old read ⊎ IsLeftTo batch id read)
    → (new ≡ old ++ get_or reads k d ∷ []) ⊎ ((new ≡ old) × IsLeftTo batch id (get_or reads k d))
    → ((read : Read) → Contains new read → Contains reads read) × ((read : Read) → Contains (take (k + 1) reads) read → Contains new read ⊎ IsLeftTo batch id read)
turn_more batch id reads old new k d within each all (inl is) =
    let one = get_or reads k d in (
      λ read there. elim (Contains-push_cases old one read (subst (λ (some : List Read). Contains some read) is there)) [
        | inl was ↦ each read was
        | inr same ↦ subst (λ (x : Read). Contains reads x) same (Contains-get_or reads k d within)
      ],
      λ read there. elim (Contains-push_cases (take k reads) one read (subst (λ (some : List Read). Contains some read) (take_more reads k d within) there)) [
        | inl was ↦ elim (all read was) [ inl here ↦ inl (subst (λ (some : List Read). Contains some read) (sym is) (Contains-append_left old (one ∷ []) read here)) | inr left ↦ inr left ]
        | inr same ↦ inl (subst (λ (some : List Read). Contains some read) (sym is) (subst (λ (x : Read). Contains (old ++ one ∷ []) x) same (Contains-push old one)))
      ],
    )
turn_more batch id reads old new k d within each all (inr both) =
    let one = get_or reads k d in (
      λ read there. each read (subst (λ (some : List Read). Contains some read) both.0 there),
      λ read there. elim (Contains-push_cases (take k reads) one read (subst (λ (some : List Read). Contains some read) (take_more reads k d within) there)) [
        | inl was ↦ elim (all read was) [ inl here ↦ inl (subst (λ (some : List Read). Contains some read) (sym both.0) here) | inr left ↦ inr left ]
        | inr same ↦ inr (subst (λ (x : Read). IsLeftTo batch id x) same both.1)
      ],
    )

-- once each has had its turn, all are settled
pub batch_settled : (parts : Parts) (R : TxnId → TxnId → Type 0) (due batch : List TxnId) → All (IsTurnSettled parts R due batch) batch → All (IsTxnSettled parts R due) batch
batch_settled parts R due batch turns k d within choice is takes =
    let read : Read = record { reader = choice.reader; key = choice.key; writer = choice.writer } in
    elim (turns k d within read is.reads takes) [
      | inl settled ↦ settled choice.other is
      | inr left ↦ elim (All-contains (IsTurnSettled parts R due batch) batch choice.reader turns left.0 read is.reads (inl refl)) [
        | inl settled ↦ settled choice.other is
        | inr again ↦ absurd (again.1 refl)
      ]
    ]

-- once all that were due are settled, those are due that this told
pub closed_but : (parts : Parts) {R S : TxnId → TxnId → Type 0} (were then : List TxnId) → IsGrowth R [] S then → IsClosedBut parts R (λ id. Contains were id)
    → ((id : TxnId) → Contains were id → IsTxnSettled parts S then id) → IsClosedBut parts S (λ id. Contains then id)
closed_but parts {R} {S} were then growth closed settled choice is = record {
  before = λ reached. elim (growth.all choice.other choice.reader reached) [
    | inr both ↦ inr (inl both.1)
    | inl was ↦ elim ((closed choice is).before was) [
      | inl there ↦ inl (growth.reaches choice.other choice.writer there)
      | inr was_due ↦ (settled_of was_due).before reached
    ]
  ];
  behind = λ reached. elim (growth.all choice.writer choice.other reached) [
    | inr both ↦ inr (inr both.0)
    | inl was ↦ elim ((closed choice is).behind was) [
      | inl there ↦ inl (growth.reaches choice.reader choice.other there)
      | inr was_due ↦ (settled_of was_due).behind reached
    ]
  ];
}
  where
    settled_of : IsDue (λ id. Contains were id) choice → IsSettledBut S (λ id. Contains then id) choice
    settled_of (inl there) = settled choice.reader there choice is (inl refl)
    settled_of (inr there) = settled choice.writer there choice is (inr refl)

-- where none is due, nothing is left to force
pub closed_now : (parts : Parts) (R : TxnId → TxnId → Type 0) → IsClosedBut parts R (λ id. Contains [] id) → IsClosed parts R
closed_now parts R closed choice is = record {
  before = λ reached. elim ((closed choice is).before reached) [ inl there ↦ there | inr none ↦ absurd (nobody none) ];
  behind = λ reached. elim ((closed choice is).behind reached) [ inl there ↦ there | inr none ↦ absurd (nobody none) ];
}
  where
    nobody : IsDue (λ id. Contains [] id) choice → ⊥
    nobody (inl none) = omega (arith, none.1)
    nobody (inr none) = omega (arith, none.1)

-- where more are due
pub closed_wider : (parts : Parts) (R : TxnId → TxnId → Type 0) (due more : TxnId → Type 0) → ((id : TxnId) → due id → more id) → IsClosedBut parts R due → IsClosedBut parts R more
closed_wider parts R due more wider closed choice is = record {
  before = λ reached. elim ((closed choice is).before reached) [ inl there ↦ inl there | inr is_due ↦ inr (widened is_due) ];
  behind = λ reached. elim ((closed choice is).behind reached) [ inl there ↦ inl there | inr is_due ↦ inr (widened is_due) ];
}
  where
    widened : IsDue due choice → IsDue more choice
    widened (inl there) = inl (wider choice.reader there)
    widened (inr there) = inr (wider choice.writer there)

pub closed_is_but : (parts : Parts) (R : TxnId → TxnId → Type 0) (due : TxnId → Type 0) → IsClosed parts R → IsClosedBut parts R due
closed_is_but parts R due closed choice is = record { before = λ reached. inl ((closed choice is).before reached); behind = λ reached. inl ((closed choice is).behind reached) }

-- it is in no run so far, and not in the next
pub not_in_more : (runs : List Run) (k : ℕ) (run : Run) (id : TxnId) → k < length runs → run ≡ get_or runs k run → ¬ IsInRuns (take k runs) id → ((run.session ≡ id.session) → ¬ Contains run.numbers.items id.number) → ¬ IsInRuns (take (k + 1) runs) id
not_in_more runs k run id within at before apart found =
    let more : take (k + 1) runs ≡ take k runs ++ run ∷ [] = take_more runs k run within ∙ ap (λ (x : Run). take k runs ++ x ∷ []) (sym at) in
    let there = subst (λ (some : List Run). Contains some found.0) more found.1 in
    elim (Contains-push_cases (take k runs) run found.0 there) [
      | inl was ↦ before (found.0, was, found.2, found.3)
      | inr same ↦ apart (ap (λ (r : Run). r.session) same ∙ found.2) (subst (λ (r : Run). Contains r.numbers.items id.number) (sym same) found.3)
    ]

pub reads_at-get : (lists : ReadLists) (session number : ℕ) (d : BTreeMap ℕ (Vec Read Global)) → session < length lists → reads_in (get_or lists session d) number ≡ reads_at lists session number
reads_at-get [] session number d within = absurd (omega arith)
reads_at-get (numbers ∷ lists) zero number d within = refl
reads_at-get (numbers ∷ lists) (suc session) number d within = reads_at-get lists session number d (omega arith)

pub reads_at-past : (lists : ReadLists) (session number : ℕ) → length lists ≤ session → reads_at lists session number ≡ []
reads_at-past [] session number past = refl
reads_at-past (numbers ∷ lists) zero number past = absurd (omega arith)
reads_at-past (numbers ∷ lists) (suc session) number past = reads_at-past lists session number (omega arith)

pub take_all : {X : Type 0} (xs : List X) (n : ℕ) → length xs ≤ n → take n xs ≡ xs
take_all [] zero all = refl
take_all [] (suc n) all = refl
take_all (x ∷ xs) zero all = absurd (omega arith)
take_all (x ∷ xs) (suc n) all = ap (λ rest. x ∷ rest) (take_all xs n (omega arith))
