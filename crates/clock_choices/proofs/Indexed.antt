-- What is looked up of transactions, as some are added.
use Rattle.std.proofs.Common.{◌≡◌, ◌≢◌, ◌⊎◌, ℕ, zero, suc, ◌+◌, ◌<◌, Bool, true, false, List, [], ◌∷◌, ◌++◌, Vec, Global, length, get_or, set, take, Option, Some, None, IsSomeAnd, refl, sym, ap, subst, ◌∙◌, inl, inr, arith, Contains}
use Rattle.std.specs.BTreeMap.{BTreeMap, IsEmpty}
use Rattle.std.proofs.lemmas.Bool.{cases_eq, eqb-true, false≢true}
use Rattle.std.specs.Cmp.{nat_eq_equiv}
use Rattle.std.proofs.lemmas.List.{take_more}
use Rattle.std.proofs.lemmas.List.Elements.{All-contains, Contains-append_left, Contains-get_or, Contains-push, Contains-push_cases}
use Rattle.std.proofs.lemmas.Map.Views.{Contains-from_any, list_any-from_Contains}
use Rattle.txn.specs.declared.transactions.TxnId.{TxnId}
use Rattle.txn.specs.declared.transactions.Txn.{Txn}
use Rattle.txn.specs.declared.transactions.Source.{Source}
use Rattle.txn.specs.declared.transactions.Source.TheVariants.{Init, By}
use Rattle.txn.specs.History.{writes_key}
use Rattle.order_check.specs.declared.remainder.Parts.{Parts}
use Rattle.order_check.specs.Based.{Remains, remaining_at}
use Rattle.order_check.specs.Known.{IsBaseSource, ReadsBase, WritesKey}
use Rattle.clock_choices.specs.declared.indexing.Index.{Index}
use Rattle.clock_choices.specs.declared.reads.Read.{Read}
use Rattle.clock_choices.specs.declared.runs.Run.{Run}
use Rattle.clock_choices.specs.Adds.{Adds, Among}
use Rattle.clock_choices.specs.Growth.{AreMore}
use Rattle.clock_choices.specs.Index.{IsInRuns, IsRead, ReadLists, TakesPart, reads_at, reads_of, runs_of}
use Rattle.clock_choices.specs.Indexing.{IsIndex, IsIndexWith, IsReadFrom, IsReadOfBase}
use Rattle.clock_choices.specs.Lists.{list_at}
use Rattle.clock_choices.specs.Writers.{AreRuns}
use Rattle.clock_choices.proofs.Adding.{adds_both, adds_none, adds_same}
use Rattle.clock_choices.proofs.Growing.{reads_base_less, reads_base_more, reads_less, reads_more, writes_less, writes_more}
use Rattle.clock_choices.proofs.Remaining.{reader_remains, writer_remains}
use Rattle.clock_choices.proofs.Settled.{reads_at-get}

-- lists of reads

pub list_at-empty : {X : Type 0} (lists : BTreeMap ℕ (Vec X Global)) (key : ℕ) → IsEmpty lists → list_at lists key ≡ []
list_at-empty lists key none = rw none refl

pub reads_at-push : (lists : ReadLists) (none : BTreeMap ℕ (Vec Read Global)) (session number : ℕ) → list_at none number ≡ [] → reads_at (lists ++ none ∷ []) session number ≡ reads_at lists session number
reads_at-push [] none zero number empty = empty
reads_at-push [] none (suc session) number empty = refl
reads_at-push (numbers ∷ lists) none zero number empty = refl
reads_at-push (numbers ∷ lists) none (suc session) number empty = reads_at-push lists none session number empty

reads_at-set_other : (lists : ReadLists) (i : ℕ) (new : BTreeMap ℕ (Vec Read Global)) (session number : ℕ) → session ≢ i → reads_at (set lists i new) session number ≡ reads_at lists session number
reads_at-set_other [] i new session number apart = refl
reads_at-set_other (numbers ∷ lists) zero new zero number apart = absurd (apart refl)
reads_at-set_other (numbers ∷ lists) zero new (suc session) number apart = refl
reads_at-set_other (numbers ∷ lists) (suc i) new zero number apart = refl
reads_at-set_other (numbers ∷ lists) (suc i) new (suc session) number apart = reads_at-set_other lists i new session number (λ same. apart (ap suc same))

reads_at-set_same : (lists : ReadLists) (i : ℕ) (new : BTreeMap ℕ (Vec Read Global)) (number : ℕ) → i < length lists → reads_at (set lists i new) i number ≡ list_at new number
reads_at-set_same [] i new number within = absurd (omega arith)
reads_at-set_same (numbers ∷ lists) zero new number within = refl
reads_at-set_same (numbers ∷ lists) (suc i) new number within = reads_at-set_same lists i new number (omega arith)

same_adds : {X : Type 0} (old new then some : List X) (Is : X → Type 0) → then ≡ old → some ≡ new → Adds (Contains old) (Contains new) Is → Adds (Contains then) (Contains some) Is
same_adds {X} old new then some Is before after adds = subst (λ (xs : List X). Adds (Contains xs) (Contains some) Is) (sym before) (subst (λ (xs : List X). Adds (Contains old) (Contains xs) Is) (sym after) adds)

-- a read is put among those of a transaction
pub read_put : (lists : ReadLists) (id : TxnId) (read : Read) (new d : BTreeMap ℕ (Vec Read Global)) → id.session < length lists
    → ((other : ℕ) → Adds (Contains (list_at (get_or lists id.session d) other)) (Contains (list_at new other)) (λ one. (one ≡ read) × (other ≡ id.number)))
    → (other : TxnId) → Adds (Contains (reads_of lists other)) (Contains (reads_of (set lists id.session new) other)) (λ one. (one ≡ read) × (other ≡ id))
read_put lists id read new d within adds other = elim (cases_eq other.session id.session) [
  | inr apart ↦
      let is : reads_of (set lists id.session new) other ≡ reads_of lists other = reads_at-set_other lists id.session new other.session other.number apart in
      subst (λ (some : List Read). Adds (Contains (reads_of lists other)) (Contains some) (λ one. (one ≡ read) × (other ≡ id))) (sym is)
      (adds_none (Contains (reads_of lists other)) (λ one. (one ≡ read) × (other ≡ id)) (λ one such. apart (ap (λ (x : TxnId). x.session) such.1)))
  | inl same ↦
      let before : reads_of lists other ≡ list_at (get_or lists id.session d) other.number = ap (λ (s : ℕ). reads_at lists s other.number) same ∙ sym (reads_at-get lists id.session other.number d within) in
      let after : reads_of (set lists id.session new) other ≡ list_at new other.number = ap (λ (s : ℕ). reads_at (set lists id.session new) s other.number) same ∙ reads_at-set_same lists id.session new other.number within in
      same_adds (list_at (get_or lists id.session d) other.number) (list_at new other.number) (reads_of lists other) (reads_of (set lists id.session new) other) (λ one. (one ≡ read) × (other ≡ id)) before after
      (adds_same (Contains (list_at (get_or lists id.session d) other.number)) (Contains (list_at new other.number)) (λ one. (one ≡ read) × (other.number ≡ id.number)) (λ one. (one ≡ read) × (other ≡ id)) (adds other.number)
      (λ one such. (such.0, ap (λ (x : TxnId). x.number) such.1))
      (λ one such. (such.0, λ i. record { session = same i; number = such.1 i })))
]

-- it is put among those of both that take part in it
pub read_put_twice : (old mid new : ReadLists) (read : Read) → ((other : TxnId) → Adds (Contains (reads_of old other)) (Contains (reads_of mid other)) (λ one. (one ≡ read) × (other ≡ read.reader)))
    → ((other : TxnId) → Adds (Contains (reads_of mid other)) (Contains (reads_of new other)) (λ one. (one ≡ read) × (other ≡ read.writer)))
    → (other : TxnId) → Adds (Contains (reads_of old other)) (Contains (reads_of new other)) (λ one. (one ≡ read) × TakesPart other one)
read_put_twice old mid new read first second other =
    adds_both (Contains (reads_of old other)) (Contains (reads_of mid other)) (Contains (reads_of new other)) (λ one. (one ≡ read) × (other ≡ read.reader)) (λ one. (one ≡ read) × (other ≡ read.writer)) (λ one. (one ≡ read) × TakesPart other one) (first other) (second other) down up
  where
    down : (one : Read) → (one ≡ read) × TakesPart other one → ((one ≡ read) × (other ≡ read.reader)) ⊎ ((one ≡ read) × (other ≡ read.writer))
    down one (same, inl reads) = inl (same, sym reads ∙ ap (λ (r : Read). r.reader) same)
    down one (same, inr written) = inr (same, sym written ∙ ap (λ (r : Read). r.writer) same)

    up : (one : Read) → ((one ≡ read) × (other ≡ read.reader)) ⊎ ((one ≡ read) × (other ≡ read.writer)) → (one ≡ read) × TakesPart other one
    up one (inl (same, reads)) = (same, inl (ap (λ (r : Read). r.reader) same ∙ sym reads))
    up one (inr (same, written)) = (same, inr (ap (λ (r : Read). r.writer) same ∙ sym written))

-- what a source names
abbrev source_or : TxnId → Source → TxnId
source_or id Init = id
source_or id (By writer) = writer

abbrev is_init : Source → Bool
is_init Init = true
is_init (By writer) = false

pub read_from_by : (reader writer : TxnId) (key : ℕ) (old new : ReadLists) → ((other : TxnId) → Adds (Contains (reads_of old other)) (Contains (reads_of new other)) (λ one. (one ≡ record { reader = reader; key = key; writer = writer }) × TakesPart other one))
    → (other : TxnId) → Adds (Contains (reads_of old other)) (Contains (reads_of new other)) (IsReadFrom reader other (key, By writer))
read_from_by reader writer key old new adds other = adds_same (Contains (reads_of old other)) (Contains (reads_of new other)) (λ one. (one ≡ record { reader = reader; key = key; writer = writer }) × TakesPart other one) (IsReadFrom reader other (key, By writer)) (adds other) down up
  where
    down : (one : Read) → IsReadFrom reader other (key, By writer) one → (one ≡ record { reader = reader; key = key; writer = writer }) × TakesPart other one
    down one (of, is, takes) =
        let k : one.key ≡ key = sym (ap (λ (read : ℕ × Source). read.0) is) in
        let w : one.writer ≡ writer = sym (ap (λ (read : ℕ × Source). source_or writer read.1) is) in
        ((λ i. record { reader = of i; key = k i; writer = w i }), takes)

    up : (one : Read) → (one ≡ record { reader = reader; key = key; writer = writer }) × TakesPart other one → IsReadFrom reader other (key, By writer) one
    up one (same, takes) = (ap (λ (r : Read). r.reader) same, (λ i. ((sym same i).key, By (sym same i).writer)), takes)

pub read_from_init : (reader other : TxnId) (key : ℕ) (old : ReadLists) → Adds (Contains (reads_of old other)) (Contains (reads_of old other)) (IsReadFrom reader other (key, Init))
read_from_init reader other key old = adds_none (Contains (reads_of old other)) (IsReadFrom reader other (key, Init)) (λ one such. false≢true (sym (ap (λ (read : ℕ × Source). is_init read.1) such.1)))

-- readers of the base
pub base_read_put : (parts : Parts) (reader : TxnId) (key : ℕ) (source : Source) (old new : BTreeMap ℕ (Vec TxnId Global)) → IsBaseSource parts key source → ((other : ℕ) → Adds (Contains (list_at old other)) (Contains (list_at new other)) (λ one. (one ≡ reader) × (other ≡ key)))
    → (other : ℕ) → Adds (Contains (list_at old other)) (Contains (list_at new other)) (IsReadOfBase parts reader other (key, source))
base_read_put parts reader key source old new is adds other = adds_same (Contains (list_at old other)) (Contains (list_at new other)) (λ one. (one ≡ reader) × (other ≡ key)) (IsReadOfBase parts reader other (key, source)) (adds other)
    (λ one such. (such.0, sym such.1)) (λ one such. (such.0, sym such.1, is))

pub base_read_passed : (parts : Parts) (reader : TxnId) (key : ℕ) (source : Source) (old : BTreeMap ℕ (Vec TxnId Global)) → ¬ IsBaseSource parts key source → (other : ℕ) → Adds (Contains (list_at old other)) (Contains (list_at old other)) (IsReadOfBase parts reader other (key, source))
base_read_passed parts reader key source old not other = adds_none (Contains (list_at old other)) (IsReadOfBase parts reader other (key, source)) (λ one such. not such.2)

-- what a transaction is looked up with

pub some_writes : (txn : Txn) (key : ℕ) → writes_key (Some txn) key ≡ true → Contains txn.writes key
some_writes txn key is = Contains-from_any (λ x y same. eqb-true x y same) key txn.writes is

pub writes_some : (txn : Txn) (key : ℕ) → Contains txn.writes key → writes_key (Some txn) key ≡ true
writes_some txn key there = list_any-from_Contains nat_eq_equiv key txn.writes there

module _ (parts : Parts) (id : TxnId) where
  -- one that remains is added
  module _ (txn : Txn) (found : remaining_at parts id ≡ Some txn) (old new : Index) where
    pub txn_indexed : ((key : ℕ) → Adds (IsInRuns (runs_of old.writers key)) (IsInRuns (runs_of new.writers key)) (Among (λ k one. (k ≡ key) × (one ≡ id)) txn.writes))
        → ((other : TxnId) → Adds (Contains (reads_of old.reads.items other)) (Contains (reads_of new.reads.items other)) (Among (IsReadFrom id other) txn.reads))
        → ((key : ℕ) → Adds (Contains (list_at old.base key)) (Contains (list_at new.base key)) (Among (IsReadOfBase parts id key) txn.reads))
        → IsIndexWith parts old new (λ other. other ≡ id)
    txn_indexed writes reads base = record {
      writers = λ key. adds_same (IsInRuns (runs_of old.writers key)) (IsInRuns (runs_of new.writers key)) (Among (λ k one. (k ≡ key) × (one ≡ id)) txn.writes) (λ other. (other ≡ id) × WritesKey parts other key) (writes key) (writer_down key) (writer_up key);
      reads = λ other. adds_same (Contains (reads_of old.reads.items other)) (Contains (reads_of new.reads.items other)) (Among (IsReadFrom id other) txn.reads) (λ read. (read.reader ≡ id) × IsRead parts read × TakesPart other read) (reads other) (read_down other) (read_up other);
      base = λ key. adds_same (Contains (list_at old.base key)) (Contains (list_at new.base key)) (Among (IsReadOfBase parts id key) txn.reads) (λ other. (other ≡ id) × ReadsBase parts other key) (base key) (base_down key) (base_up key);
    }
      where
        at : (other : TxnId) → other ≡ id → remaining_at parts other ≡ Some txn
        at other same = ap (λ (x : TxnId). remaining_at parts x) same ∙ found

        writer_down : (key : ℕ) (other : TxnId) → (other ≡ id) × WritesKey parts other key → Among (λ k one. (k ≡ key) × (one ≡ id)) txn.writes other
        writer_down key other (same, is) = (key, some_writes txn key (subst (λ (t : Option Txn). writes_key t key ≡ true) (at other same) is), (refl, same))

        writer_up : (key : ℕ) (other : TxnId) → Among (λ k one. (k ≡ key) × (one ≡ id)) txn.writes other → (other ≡ id) × WritesKey parts other key
        writer_up key other (k, there, (is, same)) = (same, subst (λ (t : Option Txn). writes_key t key ≡ true) (sym (at other same)) (writes_some txn key (subst (λ (n : ℕ). Contains txn.writes n) is there)))

        read_down : (other : TxnId) (read : Read) → (read.reader ≡ id) × IsRead parts read × TakesPart other read → Among (IsReadFrom id other) txn.reads read
        read_down other read (of, is, takes) = ((read.key, By read.writer), subst (λ (t : Option Txn). IsSomeAnd t (λ txn. Contains txn.reads (read.key, By read.writer))) (at read.reader of) is, (of, refl, takes))

        read_up : (other : TxnId) (read : Read) → Among (IsReadFrom id other) txn.reads read → (read.reader ≡ id) × IsRead parts read × TakesPart other read
        read_up other read (one, there, (of, is, takes)) = (of, subst (λ (t : Option Txn). IsSomeAnd t (λ txn. Contains txn.reads (read.key, By read.writer))) (sym (at read.reader of)) (subst (λ (r : ℕ × Source). Contains txn.reads r) is there), takes)

        base_down : (key : ℕ) (other : TxnId) → (other ≡ id) × ReadsBase parts other key → Among (IsReadOfBase parts id key) txn.reads other
        base_down key other (same, (source, reads, is)) = ((key, source), subst (λ (t : Option Txn). IsSomeAnd t (λ txn. Contains txn.reads (key, source))) (at other same) reads, (same, refl, is))

        base_up : (key : ℕ) (other : TxnId) → Among (IsReadOfBase parts id key) txn.reads other → (other ≡ id) × ReadsBase parts other key
        base_up key other (one, there, (same, is, source)) =
            (same, (one.1, subst (λ (t : Option Txn). IsSomeAnd t (λ txn. Contains txn.reads (key, one.1))) (sym (at other same)) (subst (λ (k : ℕ). Contains txn.reads (k, one.1)) is there), subst (λ (k : ℕ). IsBaseSource parts k one.1) is source))

  -- one that doesn't remain
  pub none_indexed : (old : Index) → remaining_at parts id ≡ None → IsIndexWith parts old old (λ other. other ≡ id)
  none_indexed old none = record {
    writers = λ key. adds_none (IsInRuns (runs_of old.writers key)) (λ other. (other ≡ id) × WritesKey parts other key) (λ other such. false≢true (subst (λ (t : Option Txn). writes_key t key ≡ true) (at other such.0) such.1));
    reads = λ other. adds_none (Contains (reads_of old.reads.items other)) (λ read. (read.reader ≡ id) × IsRead parts read × TakesPart other read) (λ read such. subst (λ (t : Option Txn). IsSomeAnd t (λ txn. Contains txn.reads (read.key, By read.writer))) (at read.reader such.0) such.1);
    base = λ key. adds_none (Contains (list_at old.base key)) (λ other. (other ≡ id) × ReadsBase parts other key) (λ other such. subst (λ (t : Option Txn). IsSomeAnd t (λ txn. Contains txn.reads (key, such.1.0))) (at other such.0) such.1.1);
  }
    where
      at : (other : TxnId) → other ≡ id → remaining_at parts other ≡ None
      at other same = ap (λ (x : TxnId). remaining_at parts x) same ∙ none

module _ (parts : Parts) where
  pub index_with_none : (old : Index) (Is : TxnId → Type 0) → ((id : TxnId) → ¬ Is id) → IsIndexWith parts old old Is
  index_with_none old Is none = record {
    writers = λ key. adds_none (IsInRuns (runs_of old.writers key)) (λ other. Is other × WritesKey parts other key) (λ other such. none other such.0);
    reads = λ other. adds_none (Contains (reads_of old.reads.items other)) (λ read. Is read.reader × IsRead parts read × TakesPart other read) (λ read such. none read.reader such.0);
    base = λ key. adds_none (Contains (list_at old.base key)) (λ other. Is other × ReadsBase parts other key) (λ other such. none other such.0);
  }

  pub index_with_both : (old mid new : Index) (Is Also Then : TxnId → Type 0) → IsIndexWith parts old mid Is → IsIndexWith parts mid new Also → ((id : TxnId) → Then id → Is id ⊎ Also id) → ((id : TxnId) → Is id ⊎ Also id → Then id) → IsIndexWith parts old new Then
  index_with_both old mid new Is Also Then first second down up = record {
    writers = λ key. adds_both (IsInRuns (runs_of old.writers key)) (IsInRuns (runs_of mid.writers key)) (IsInRuns (runs_of new.writers key)) (λ other. Is other × WritesKey parts other key) (λ other. Also other × WritesKey parts other key) (λ other. Then other × WritesKey parts other key) (first.writers key) (second.writers key)
        (λ other such. split other (WritesKey parts other key) such.0 such.1) (λ other such. join other (WritesKey parts other key) such);
    reads = λ at. adds_both (Contains (reads_of old.reads.items at)) (Contains (reads_of mid.reads.items at)) (Contains (reads_of new.reads.items at)) (λ read. Is read.reader × IsRead parts read × TakesPart at read) (λ read. Also read.reader × IsRead parts read × TakesPart at read) (λ read. Then read.reader × IsRead parts read × TakesPart at read) (first.reads at) (second.reads at)
        (λ read such. split_read at read such) (λ read such. join_read at read such);
    base = λ key. adds_both (Contains (list_at old.base key)) (Contains (list_at mid.base key)) (Contains (list_at new.base key)) (λ other. Is other × ReadsBase parts other key) (λ other. Also other × ReadsBase parts other key) (λ other. Then other × ReadsBase parts other key) (first.base key) (second.base key)
        (λ other such. split other (ReadsBase parts other key) such.0 such.1) (λ other such. join other (ReadsBase parts other key) such);
  }
    where
      split : (id : TxnId) (P : Type 0) → Then id → P → (Is id × P) ⊎ (Also id × P)
      split id P is fact = elim (down id is) [ inl such ↦ inl (such, fact) | inr also ↦ inr (also, fact) ]

      split_read : (at : TxnId) (read : Read) → Then read.reader × IsRead parts read × TakesPart at read → (Is read.reader × IsRead parts read × TakesPart at read) ⊎ (Also read.reader × IsRead parts read × TakesPart at read)
      split_read at read (is, reads, takes) = elim (down read.reader is) [ inl such ↦ inl (such, reads, takes) | inr also ↦ inr (also, reads, takes) ]

      join_read : (at : TxnId) (read : Read) → (Is read.reader × IsRead parts read × TakesPart at read) ⊎ (Also read.reader × IsRead parts read × TakesPart at read) → Then read.reader × IsRead parts read × TakesPart at read
      join_read at read (inl (is, reads, takes)) = (up read.reader (inl is), reads, takes)
      join_read at read (inr (is, reads, takes)) = (up read.reader (inr is), reads, takes)

      join : (id : TxnId) (P : Type 0) → (Is id × P) ⊎ (Also id × P) → Then id × P
      join id P (inl both) = (up id (inl both.0), both.1)
      join id P (inr both) = (up id (inr both.0), both.1)

-- what is looked up of parts is looked up of more parts, once those by which they are more are added
pub index_more : (old parts : Parts) (index new : Index) (Is : TxnId → Type 0) → AreMore old parts → ((id : TxnId) → Remains parts id → Remains old id ⊎ Is id) → ((id : TxnId) → Is id → Remains parts id) → IsIndex old index → IsIndexWith parts index new Is → ((key : ℕ) → AreRuns (runs_of new.writers key)) → IsIndex parts new
index_more old parts index new Is are split remain is adds runs = record {
  runs = runs;
  writers = λ key. record {
    each = λ id found. elim ((adds.writers key).each id found) [ inl was ↦ writes_more old parts id key are ((is.writers key).each id was) | inr such ↦ such.1 ];
    all = λ id writes. elim (split id (writer_remains parts id key writes)) [
      | inl was ↦ (adds.writers key).stay id ((is.writers key).all id (writes_less old parts id key are was writes))
      | inr new_one ↦ (adds.writers key).all id (new_one, writes)
    ];
  };
  reads = λ id. record {
    each = λ k d within. elim ((adds.reads id).each (get_or (reads_of new.reads.items id) k d) (Contains-get_or (reads_of new.reads.items id) k d within)) [
      | inl was ↦
          let read = get_or (reads_of new.reads.items id) k d in
          reads_more old parts read.reader read.key (By read.writer) are (All-contains (IsRead old) (reads_of index.reads.items id) read (is.reads id).each was)
      | inr such ↦ such.1
    ];
    all = λ read reads takes. elim (split read.reader (reader_remains parts read.reader read.key (By read.writer) reads)) [
      | inl was ↦ (adds.reads id).stay read ((is.reads id).all read (reads_less old parts read.reader read.key (By read.writer) are was reads) takes)
      | inr new_one ↦ (adds.reads id).all read (new_one, reads, takes)
    ];
  };
  base = λ key. record {
    each = λ id there. elim ((adds.base key).each id there) [ inl was ↦ reads_base_more old parts id key are ((is.base key).each id was) | inr such ↦ such.1 ];
    all = λ id reads. elim (split id (reader_remains parts id key reads.0 reads.1)) [
      | inl was ↦ (adds.base key).stay id ((is.base key).all id (reads_base_less old parts id key are was reads))
      | inr new_one ↦ (adds.base key).all id (new_one, reads)
    ];
  };
}

-- nothing is looked up where nothing was added
pub index_of_all : (parts : Parts) (index new : Index) (ids : List TxnId) → ((key : ℕ) → runs_of index.writers key ≡ []) → ((id : TxnId) → reads_of index.reads.items id ≡ []) → ((key : ℕ) → list_at index.base key ≡ [])
    → ((id : TxnId) → Remains parts id → Contains ids id) → IsIndexWith parts index new (Contains ids) → ((key : ℕ) → AreRuns (runs_of new.writers key)) → IsIndex parts new
index_of_all parts index new ids no_runs no_reads no_base listed adds runs = record {
  runs = runs;
  writers = λ key. record {
    each = λ id found. elim ((adds.writers key).each id found) [ inl was ↦ absurd (no_one (λ (r : List Run). IsInRuns r id) (no_runs key) was (λ none. omega (arith, none.1.1))) | inr such ↦ such.1 ];
    all = λ id writes. (adds.writers key).all id (listed id (writer_remains parts id key writes), writes);
  };
  reads = λ id. record {
    each = λ k d within. elim ((adds.reads id).each (get_or (reads_of new.reads.items id) k d) (Contains-get_or (reads_of new.reads.items id) k d within)) [
      | inl was ↦ absurd (no_one (λ (r : List Read). Contains r (get_or (reads_of new.reads.items id) k d)) (no_reads id) was (λ none. omega (arith, none.1)))
      | inr such ↦ such.1
    ];
    all = λ read reads takes. (adds.reads id).all read (listed read.reader (reader_remains parts read.reader read.key (By read.writer) reads), reads, takes);
  };
  base = λ key. record {
    each = λ id there. elim ((adds.base key).each id there) [ inl was ↦ absurd (no_one (λ (r : List TxnId). Contains r id) (no_base key) was (λ none. omega (arith, none.1))) | inr such ↦ such.1 ];
    all = λ id reads. (adds.base key).all id (listed id (reader_remains parts id key reads.0 reads.1), reads);
  };
}
  where
    no_one : {X : Type 0} (P : List X → Type 0) {xs : List X} → xs ≡ [] → P xs → ¬ P [] → ⊥
    no_one P none was not = not (subst P none was)

-- the first so many and one more
pub taken_one_more : (ids : List TxnId) (k : ℕ) (d id : TxnId) → k < length ids → Contains (take (k + 1) ids) id → Contains (take k ids) id ⊎ (id ≡ get_or ids k d)
taken_one_more ids k d id within there = elim (Contains-push_cases (take k ids) (get_or ids k d) id (subst (λ (some : List TxnId). Contains some id) (take_more ids k d within) there)) [
  | inl before ↦ inl before
  | inr same ↦ inr (sym same)
]

pub one_more_taken : (ids : List TxnId) (k : ℕ) (d id : TxnId) → k < length ids → Contains (take k ids) id ⊎ (id ≡ get_or ids k d) → Contains (take (k + 1) ids) id
one_more_taken ids k d id within (inl before) = subst (λ (some : List TxnId). Contains some id) (sym (take_more ids k d within)) (Contains-append_left (take k ids) (get_or ids k d ∷ []) id before)
one_more_taken ids k d id within (inr same) = subst (λ (some : List TxnId). Contains some id) (sym (take_more ids k d within)) (subst (λ (one : TxnId). Contains (take k ids ++ get_or ids k d ∷ []) one) (sym same) (Contains-push (take k ids) (get_or ids k d)))
