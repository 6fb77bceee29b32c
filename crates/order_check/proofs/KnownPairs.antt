-- A list of pairs that has all that is known, shown by a test.
use Rattle.std.proofs.Common.{◌≡◌, ℕ, Bool, true, false, not, ◌&&◌, List, [], arith, Contains, Option, Some, None, nat_eq, nat_lt, refl, sym, ◌∙◌, subst}
use Rattle.std.specs.List.{list_any, list_all}
use Rattle.std.proofs.lemmas.Bool.{and_parts, and_from, eq-eqb, lt-ltb, eqb-true, false≢true}
use Rattle.std.proofs.lemmas.List.Sums.{AllPass-from_list_all}
use Rattle.std.proofs.lemmas.List.Elements.{All-contains}
use Rattle.std.proofs.lemmas.Map.Views.{Contains-from_any}
use Rattle.txn.specs.declared.transactions.TxnId.{TxnId}
use Rattle.txn.specs.declared.transactions.Source.{Source}
use Rattle.txn.specs.declared.transactions.Source.TheVariants.{Init, By}
use Rattle.txn.specs.declared.choices.Choice.{Choice}
use Rattle.txn.specs.Transactions.{same_id}
use Rattle.txn.specs.History.{writes_key}
use Rattle.txn.proofs.Ids.{apart_test, same_id_is, same_id_itself}
use Rattle.order_check.specs.declared.remainder.Parts.{Parts}
use Rattle.order_check.specs.Based.{remaining_at, last_gone}
use Rattle.order_check.specs.Known.{ReadsKey, WritesKey, IsBaseSource, IsChoice, IsOpen, Known}
use Rattle.order_check.proofs.EachRemaining.{each, each_read, each_read_at, each_writer, each_writer_at, each_remains, implies, implied, apart_by_test}
use Rattle.order_check.proofs.KnownLaws.{IsClosed, known_least}

abbrev pub Pairs : Type 0
Pairs = List (TxnId × TxnId)

abbrev pub same_pair : TxnId × TxnId → TxnId × TxnId → Bool
same_pair p q = same_id p.0 q.0 && same_id p.1 q.1

-- the pairs have this one
abbrev pub has : Pairs → TxnId → TxnId → Bool
has pairs a b = list_any (same_pair (a, b)) pairs

abbrev pub test_session : Parts → Pairs → Bool
test_session parts pairs = each (λ a _. each (λ b _. implies (nat_eq a.session b.session && nat_lt a.number b.number) (has pairs a b)) parts) parts

abbrev pub test_read : Parts → Pairs → TxnId → ℕ × Source → Bool
test_read parts pairs reader read = by_source read.1
  where
    by_source : Source → Bool
    by_source Init = true
    by_source (By writer) = implies (writes_key (remaining_at parts writer) read.0) (has pairs writer reader)

-- whether a read of the key from the source is met by the base, of which the last gone writers are told
abbrev pub of_base : Option TxnId → Source → Bool
of_base None Init = true
of_base (Some last) Init = false
of_base None (By writer) = false
of_base (Some last) (By writer) = same_id last writer

abbrev pub test_base : Parts → (ℕ → Option TxnId) → Pairs → TxnId → ℕ × Source → Bool
test_base parts base pairs reader read = implies (of_base (base read.0) read.1) (each_writer read.0 (λ other. implies (not (same_id other reader)) (has pairs reader other)) parts)

abbrev pub test_through : Pairs → Bool
test_through pairs = list_all (λ (p : TxnId × TxnId). list_all (λ (q : TxnId × TxnId). implies (same_id p.1 q.0) (has pairs p.0 q.1)) pairs) pairs

abbrev pub test_forced : Parts → Pairs → TxnId → ℕ × Source → Bool
test_forced parts pairs reader read = by_source read.1
  where
    by_source : Source → Bool
    by_source Init = true
    by_source (By writer) = implies (writes_key (remaining_at parts writer) read.0) (each_writer read.0 (λ other. implies (not (same_id other writer) && not (same_id other reader)) (implies (has pairs writer other) (has pairs reader other) && implies (has pairs other reader) (has pairs other writer))) parts)

abbrev pub test_choices : Parts → (Choice → Bool) → TxnId → ℕ × Source → Bool
test_choices parts test reader read = by_source read.1
  where
    by_source : Source → Bool
    by_source Init = true
    by_source (By writer) = implies (writes_key (remaining_at parts writer) read.0) (each_writer read.0 (λ other. implies (not (same_id other writer) && not (same_id other reader)) (test (record { reader = reader; key = read.0; writer = writer; other = other }))) parts)

-- the pairs keep each rule of the known relation
pub record Covers (parts : Parts) (base : ℕ → Option TxnId) (pairs : Pairs) : Type 0 where
  pub gone : (key : ℕ) → last_gone parts key ≡ base key
  pub session : test_session parts pairs ≡ true
  pub read : each_read (test_read parts pairs) parts ≡ true
  pub from_base : each_read (test_base parts base pairs) parts ≡ true
  pub transitive : test_through pairs ≡ true
  pub forced : each_read (test_forced parts pairs) parts ≡ true

same_pair_is : (p q : TxnId × TxnId) → same_pair p q ≡ true → p ≡ q
same_pair_is p q same =
    let both = and_parts (same_id p.0 q.0) (same_id p.1 q.1) same in
    let first = same_id_is p.0 q.0 both.0 in
    let second = same_id_is p.1 q.1 both.1 in
    λ i. (first i, second i)

has_pair : (pairs : Pairs) (a b : TxnId) → has pairs a b ≡ true → Contains pairs (a, b)
has_pair pairs a b h = Contains-from_any {eq = same_pair} same_pair_is (a, b) pairs h

pairs_transitive : (pairs : Pairs) → test_through pairs ≡ true → (a b c : TxnId) → has pairs a b ≡ true → has pairs b c ≡ true → has pairs a c ≡ true
pairs_transitive pairs test a b c first second =
    let inner : TxnId × TxnId → TxnId × TxnId → Bool = λ p q. implies (same_id p.1 q.0) (has pairs p.0 q.1) in
    let outer = All-contains (λ p. list_all (inner p) pairs ≡ true) pairs (a, b) (AllPass-from_list_all (λ p. list_all (inner p) pairs) pairs test) (has_pair pairs a b first) in
    let here = All-contains (λ q. inner (a, b) q ≡ true) pairs (b, c) (AllPass-from_list_all (inner (a, b)) pairs outer) (has_pair pairs b c second) in
    implied (same_id b b) (has pairs a c) here (same_id_itself b)

base_source : (parts : Parts) (base : Option TxnId) (key : ℕ) (source : Source) → last_gone parts key ≡ base → IsBaseSource parts key source → of_base base source ≡ true
base_source parts None key Init gone is = refl
base_source parts (Some last) key Init gone is = absurd (cc)
base_source parts None key (By writer) gone is = absurd (cc)
base_source parts (Some last) key (By writer) gone is =
    let same : last ≡ writer = cc in
    subst (λ w. same_id last w ≡ true) same (same_id_itself last)

pub covers_closed : (parts : Parts) (base : ℕ → Option TxnId) (pairs : Pairs) → Covers parts base pairs → IsClosed parts [] (λ a b. has pairs a b ≡ true)
covers_closed parts base pairs covers = record {
  session = λ a b here there same below.
      let inner = each_remains (λ i. each (λ j _. implies (nat_eq i.session j.session && nat_lt i.number j.number) (has pairs i j)) parts) parts covers.session a here in
      let test = each_remains (λ j. implies (nat_eq a.session j.session && nat_lt a.number j.number) (has pairs a j)) parts inner b there in
      implied (nat_eq a.session b.session && nat_lt a.number b.number) (has pairs a b) test (and_from (nat_eq a.session b.session) (nat_lt a.number b.number) (eq-eqb a.session b.session same) (lt-ltb a.number b.number below));
  read = λ reader writer key reads written.
      implied (writes_key (remaining_at parts writer) key) (has pairs writer reader) (each_read_at (test_read parts pairs) parts covers.read reader key (By writer) reads) written;
  base = λ reader other key (source, reads, of) written apart.
      let writers = implied (of_base (base key) source) (each_writer key (λ o. implies (not (same_id o reader)) (has pairs reader o)) parts) (each_read_at (test_base parts base pairs) parts covers.from_base reader key source reads) (base_source parts (base key) key source (covers.gone key) of) in
      implied (not (same_id other reader)) (has pairs reader other) (each_writer_at key (λ o. implies (not (same_id o reader)) (has pairs reader o)) parts writers other written) (apart_test other reader apart);
  sides = λ a b (k, within, is). absurd (omega arith);
  transitive = pairs_transitive pairs covers.transitive;
  after = λ choice is known. implied (has pairs choice.writer choice.other) (has pairs choice.reader choice.other) (forced choice is).0 known;
  front = λ choice is known. implied (has pairs choice.other choice.reader) (has pairs choice.other choice.writer) (forced choice is).1 known;
}
  where
    forced : (choice : Choice) → IsChoice parts choice → (implies (has pairs choice.writer choice.other) (has pairs choice.reader choice.other) ≡ true) × (implies (has pairs choice.other choice.reader) (has pairs choice.other choice.writer) ≡ true)
    forced choice is =
        let both : TxnId → Bool = λ o. implies (has pairs choice.writer o) (has pairs choice.reader o) && implies (has pairs o choice.reader) (has pairs o choice.writer) in
        let test : TxnId → Bool = λ o. implies (not (same_id o choice.writer) && not (same_id o choice.reader)) (both o) in
        let writers = implied (writes_key (remaining_at parts choice.writer) choice.key) (each_writer choice.key test parts) (each_read_at (test_forced parts pairs) parts covers.forced choice.reader choice.key (By choice.writer) is.reads) is.written in
        let here = each_writer_at choice.key test parts writers choice.other is.other in
        let apart = and_from (not (same_id choice.other choice.writer)) (not (same_id choice.other choice.reader)) (apart_test choice.other choice.writer is.not_writer) (apart_test choice.other choice.reader is.not_reader) in
        and_parts (implies (has pairs choice.writer choice.other) (has pairs choice.reader choice.other)) (implies (has pairs choice.other choice.reader) (has pairs choice.other choice.writer)) (implied (not (same_id choice.other choice.writer) && not (same_id choice.other choice.reader)) (both choice.other) here apart)

-- what is known is among the pairs
pub known_has : (parts : Parts) (base : ℕ → Option TxnId) (pairs : Pairs) → Covers parts base pairs → (a b : TxnId) → Known parts [] a b → has pairs a b ≡ true
known_has parts base pairs covers a b known = known_least (λ x y. has pairs x y ≡ true) (covers_closed parts base pairs covers) known

-- a choice, where tests tell its other writer from the writer and from the reader
pub choice_by_test : (parts : Parts) (choice : Choice) → ReadsKey parts choice.reader choice.key (By choice.writer) → WritesKey parts choice.writer choice.key → WritesKey parts choice.other choice.key → same_id choice.other choice.writer ≡ false → same_id choice.other choice.reader ≡ false → IsChoice parts choice
choice_by_test parts choice reads written other not_writer not_reader = record {
  reads = reads;
  written = written;
  other = other;
  not_writer = apart_by_test choice.other choice.writer not_writer;
  not_reader = apart_by_test choice.other choice.reader not_reader;
}

-- every choice passes this test
pub each_choice : (parts : Parts) (test : Choice → Bool) → each_read (test_choices parts test) parts ≡ true → (choice : Choice) → IsChoice parts choice → test choice ≡ true
each_choice parts test all choice is =
    let inner : TxnId → Bool = λ o. implies (not (same_id o choice.writer) && not (same_id o choice.reader)) (test (record { reader = choice.reader; key = choice.key; writer = choice.writer; other = o })) in
    let writers = implied (writes_key (remaining_at parts choice.writer) choice.key) (each_writer choice.key inner parts) (each_read_at (test_choices parts test) parts all choice.reader choice.key (By choice.writer) is.reads) is.written in
    let here = each_writer_at choice.key inner parts writers choice.other is.other in
    implied (not (same_id choice.other choice.writer) && not (same_id choice.other choice.reader)) (test choice) here (and_from (not (same_id choice.other choice.writer)) (not (same_id choice.other choice.reader)) (apart_test choice.other choice.writer is.not_writer) (apart_test choice.other choice.reader is.not_reader))

abbrev pub same_choice : Choice → Choice → Bool
same_choice a b = same_id a.reader b.reader && nat_eq a.key b.key && same_id a.writer b.writer && same_id a.other b.other

pub same_choice_is : (a b : Choice) → same_choice a b ≡ true → a ≡ b
same_choice_is a b same =
    let three = and_parts (same_id a.reader b.reader && nat_eq a.key b.key && same_id a.writer b.writer) (same_id a.other b.other) same in
    let two = and_parts (same_id a.reader b.reader && nat_eq a.key b.key) (same_id a.writer b.writer) three.0 in
    let one = and_parts (same_id a.reader b.reader) (nat_eq a.key b.key) two.0 in
    let reader = same_id_is a.reader b.reader one.0 in
    let key = eqb-true a.key b.key one.1 in
    let writer = same_id_is a.writer b.writer two.1 in
    let other = same_id_is a.other b.other three.1 in
    λ i. record { reader = reader i; key = key i; writer = writer i; other = other i }

-- a choice is open where the pairs have neither side, nor what rules one out
pub open_by_test : (parts : Parts) (base : ℕ → Option TxnId) (pairs : Pairs) → Covers parts base pairs → (choice : Choice) → IsChoice parts choice → has pairs choice.writer choice.other ≡ false → has pairs choice.other choice.reader ≡ false → has pairs choice.other choice.writer ≡ false → has pairs choice.reader choice.other ≡ false → IsOpen parts [] choice
open_by_test parts base pairs covers choice is writer_other other_reader other_writer reader_other = record {
  choice_of = is;
  writer_other = not_known choice.writer choice.other writer_other;
  other_reader = not_known choice.other choice.reader other_reader;
  other_writer = not_known choice.other choice.writer other_writer;
  reader_other = not_known choice.reader choice.other reader_other;
}
  where
    not_known : (a b : TxnId) → has pairs a b ≡ false → ¬ Known parts [] a b
    not_known a b none known = false≢true (sym none ∙ known_has parts base pairs covers a b known)

-- each open choice is in a list that has each choice
pub open_in : (parts : Parts) (choices : List Choice) → each_read (test_choices parts (λ choice. list_any (same_choice choice) choices)) parts ≡ true → (choice : Choice) → IsOpen parts [] choice → Contains choices choice
open_in parts choices all choice open_one = Contains-from_any {eq = same_choice} same_choice_is choice choices (each_choice parts (λ c. list_any (same_choice c) choices) all choice open_one.choice_of)

-- nothing is known to come before itself, where no pair has the same id twice
pub no_cycle_by_test : (parts : Parts) (base : ℕ → Option TxnId) (pairs : Pairs) → Covers parts base pairs → list_all (λ (p : TxnId × TxnId). not (same_id p.0 p.1)) pairs ≡ true → (one : TxnId) → ¬ Known parts [] one one
no_cycle_by_test parts base pairs covers test one known =
    let apart = All-contains (λ p. not (same_id p.0 p.1) ≡ true) pairs (one, one) (AllPass-from_list_all (λ p. not (same_id p.0 p.1)) pairs test) (has_pair pairs one one (known_has parts base pairs covers one one known)) in
    false≢true (subst (λ b. not b ≡ true) (same_id_itself one) apart)
