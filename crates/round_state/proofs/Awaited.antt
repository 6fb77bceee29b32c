-- The reads of a fragment that wait: which they are, and that none stands twice.
use Rattle.std.proofs.Common.{◌≡◌, ◌≢◌, ℕ, zero, suc, ◌+◌, ◌<◌, ◌⊎◌, inl, inr, Bool, true, false, cond, ◌&&◌, nat_lt, nat_eq, refl, sym, ap, subst, ◌∙◌, List, [], ◌∷◌, ◌++◌, length, length-take-le, append-nil, take, get_or, Some, arith, add-one}
use Rattle.std.specs.Prelude.{Contains, slice_get, ⊤}
use Rattle.std.specs.List.{AllPairs}
use Rattle.std.proofs.lemmas.Bool.{false≢true, ltb-true, lt-ltb, eqb-true, or_cases, and_parts}
use Rattle.std.proofs.lemmas.List.{append_assoc, take_more}
use Rattle.std.proofs.lemmas.List.Elements.{All-weaker, All-contains_itself, Contains-append_left, Contains-append_right, Contains-append_cases}
use Rattle.std.proofs.lemmas.List.Kept.{AllPairs-cons}
use Rattle.txn.specs.declared.transactions.TxnId.{TxnId}
use Rattle.txn.specs.declared.transactions.Source.{Source}
use Rattle.txn.specs.declared.transactions.Source.TheVariants.{Init, By}
use Rattle.txn.specs.declared.transactions.Txn.{Txn}
use Rattle.txn.specs.Transactions.{id_below, source_below, read_below, Rises}
use Rattle.session_marks.specs.declared.marks.SessionMark.{SessionMark}
use Rattle.session_marks.specs.Marks.{mark_at, IsReceived}
use Rattle.pending_reads.specs.declared.index.PendingRead.{PendingRead}
use Rattle.round_state.specs.Awaiting.{awaited_of, awaited_from}

-- elements of lists

later : {X : Type 0} (xs : List X) (x z : X) → Contains xs x → Contains (z ∷ xs) x
later xs x z (k, within, is) = (suc k, omega arith, is)

-- no element stands twice
abbrev Apart : {X : Type 0} → List X → Type 0
Apart [] = ⊤
Apart (x ∷ xs) = (Contains xs x → ⊥) × Apart xs

apart_append : {X : Type 0} (xs ys : List X) → Apart xs → Apart ys → ((x : X) → Contains xs x → Contains ys x → ⊥) → Apart (xs ++ ys)
apart_append [] ys hx hy across = hy
apart_append {X} (x ∷ xs) ys hx hy across = ((λ h. by_part (Contains-append_cases xs ys x h)), apart_append xs ys hx.1 hy (λ z hz. across z (later xs z x hz)))
  where
    by_part : Contains xs x ⊎ Contains ys x → ⊥
    by_part (inl h) = hx.0 h
    by_part (inr h) = across x (0, omega arith, refl) h

pairs_from_apart : {X : Type 0} (xs : List X) → Apart xs → AllPairs (λ earlier later. earlier ≢ later) xs
pairs_from_apart [] h = λ i j d low within _. absurd (omega arith)
pairs_from_apart (x ∷ xs) h =
    AllPairs-cons (λ earlier later. earlier ≢ later) x xs (All-weaker (Contains xs) (λ y. x ≢ y) (λ y there same. h.0 (subst (Contains xs) (sym same) there)) xs (All-contains_itself xs)) (pairs_from_apart xs h.1)

-- reads that rise are apart

abbrev IdLess : TxnId → TxnId → Type 0
IdLess a b = (a.session < b.session) ⊎ ((a.session ≡ b.session) × (a.number < b.number))

id_less : (a b : TxnId) → id_below a b ≡ true → IdLess a b
id_less a b below = by_part (or_cases _ _ below)
  where
    by_part : (nat_lt a.session b.session ≡ true) ⊎ ((nat_eq a.session b.session && nat_lt a.number b.number) ≡ true) → IdLess a b
    by_part (inl session) = inl (ltb-true a.session b.session session)
    by_part (inr number) = let parts = and_parts _ _ number in inr (eqb-true a.session b.session parts.0, ltb-true a.number b.number parts.1)

id_pass : (a b c : TxnId) → IdLess a b → IdLess b c → IdLess a c
id_pass a b c (inl x) (inl y) = inl (omega (arith, x, y))
id_pass a b c (inl x) (inr y) = inl (omega (arith, x, y.0))
id_pass a b c (inr x) (inl y) = inl (omega (arith, x.0, y))
id_pass a b c (inr x) (inr y) = inr (x.0 ∙ y.0, omega (arith, x.1, y.1))

not_itself : (a : TxnId) → IdLess a a → ⊥
not_itself a (inl x) = omega (arith, x)
not_itself a (inr x) = omega (arith, x.1)

abbrev SourceLess : Source → Source → Type 0
SourceLess Init Init = ⊥
SourceLess Init (By b) = ⊤
SourceLess (By a) Init = ⊥
SourceLess (By a) (By b) = IdLess a b

source_less : (a b : Source) → source_below a b ≡ true → SourceLess a b
source_less Init Init below = absurd (false≢true below)
source_less Init (By b) below = tt
source_less (By a) Init below = absurd (false≢true below)
source_less (By a) (By b) below = id_less a b below

source_pass : (a b c : Source) → SourceLess a b → SourceLess b c → SourceLess a c
source_pass Init Init c x y = absurd x
source_pass Init (By b) Init x y = absurd y
source_pass Init (By b) (By c) x y = tt
source_pass (By a) Init c x y = absurd x
source_pass (By a) (By b) Init x y = absurd y
source_pass (By a) (By b) (By c) x y = id_pass a b c x y

source_not_itself : (a : Source) → SourceLess a a → ⊥
source_not_itself Init x = x
source_not_itself (By a) x = not_itself a x

abbrev ReadLess : ℕ × Source → ℕ × Source → Type 0
ReadLess a b = (a.0 < b.0) ⊎ ((a.0 ≡ b.0) × SourceLess a.1 b.1)

read_less : (a b : ℕ × Source) → read_below a b ≡ true → ReadLess a b
read_less a b below = by_part (or_cases _ _ below)
  where
    by_part : (nat_lt a.0 b.0 ≡ true) ⊎ ((nat_eq a.0 b.0 && source_below a.1 b.1) ≡ true) → ReadLess a b
    by_part (inl key) = inl (ltb-true a.0 b.0 key)
    by_part (inr source) = let parts = and_parts _ _ source in inr (eqb-true a.0 b.0 parts.0, source_less a.1 b.1 parts.1)

read_pass : (a b c : ℕ × Source) → ReadLess a b → ReadLess b c → ReadLess a c
read_pass a b c (inl x) (inl y) = inl (omega (arith, x, y))
read_pass a b c (inl x) (inr y) = inl (omega (arith, x, y.0))
read_pass a b c (inr x) (inl y) = inl (omega (arith, x.0, y))
read_pass a b c (inr x) (inr y) = inr (x.0 ∙ y.0, source_pass a.1 b.1 c.1 x.1 y.1)

read_not_itself : (a : ℕ × Source) → ReadLess a a → ⊥
read_not_itself a (inl x) = omega (arith, x)
read_not_itself a (inr x) = source_not_itself a.1 x.1

-- the first of reads that rise is below all others
first_below : (read : ℕ × Source) (more : List (ℕ × Source)) → Rises read_below (read ∷ more) → (k : ℕ) → k < length more → ReadLess read (get_or more k read)
first_below read more rises zero within = read_less read (get_or more 0 read) (rises 0 read (omega arith))
first_below read more rises (suc k) within =
    let step : read_below (get_or more k read) (get_or more (suc k) read) ≡ true = rw add-one at (rises (suc k) read (omega arith)) in
    read_pass read (get_or more k read) (get_or more (suc k) read) (first_below read more rises k (omega arith)) (read_less (get_or more k read) (get_or more (suc k) read) step)

apart_reads : (reads : List (ℕ × Source)) → Rises read_below reads → Apart reads
apart_reads [] rises = tt
apart_reads (read ∷ more) rises = (
  (λ there. read_not_itself read (subst (ReadLess read) there.2 (first_below read more rises there.0 there.1))),
  apart_reads more (λ k d within. let step = rw add-one at (rises (suc k) d (omega arith)) in rw add-one step),
)

-- the reads of one transaction

abbrev read_of : TxnId → ℕ → TxnId → PendingRead
read_of reader key writer = record { reader = reader; key = key; writer = writer }

pub awaited_sound : (marks : List SessionMark) (reader : TxnId) (reads : List (ℕ × Source)) (x : PendingRead) → Contains (awaited_of marks reader reads) x → (x.reader ≡ reader) × Contains reads (x.key, By x.writer) × (¬ IsReceived marks x.writer)
awaited_sound marks reader [] x there = absurd (omega (arith, there.1))
awaited_sound marks reader ((key, Init) ∷ more) x there = let rest = awaited_sound marks reader more x there in (rest.0, later more (x.key, By x.writer) (key, Init) rest.1, rest.2)
awaited_sound marks reader ((key, By writer) ∷ more) x there = by_test (nat_lt writer.number (mark_at marks writer.session).received) refl there (awaited_sound marks reader more x)
  where
    Sound : List (ℕ × Source) → Type 0
    Sound reads = (x.reader ≡ reader) × Contains reads (x.key, By x.writer) × (¬ IsReceived marks x.writer)

    onwards : Sound more → Sound ((key, By writer) ∷ more)
    onwards rest = (rest.0, later more (x.key, By x.writer) (key, By writer) rest.1, rest.2)

    here : nat_lt writer.number (mark_at marks writer.session).received ≡ false → read_of reader key writer ≡ x → Sound ((key, By writer) ∷ more)
    here test same = subst (λ (y : PendingRead). (y.reader ≡ reader) × Contains ((key, By writer) ∷ more) (y.key, By y.writer) × (¬ IsReceived marks y.writer)) same
        (refl, (0, omega arith, refl), λ received. false≢true (sym test ∙ lt-ltb writer.number (mark_at marks writer.session).received received))

    by_test : (t : Bool) → nat_lt writer.number (mark_at marks writer.session).received ≡ t → Contains (cond t (awaited_of marks reader more) (read_of reader key writer ∷ awaited_of marks reader more)) x → (Contains (awaited_of marks reader more) x → Sound more) → Sound ((key, By writer) ∷ more)
    by_test true test h rest = onwards (rest h)
    by_test false test (zero, within, is) rest = here test is
    by_test false test (suc k, within, is) rest = onwards (rest (k, omega arith, is))

pub awaited_complete : (marks : List SessionMark) (reader : TxnId) (reads : List (ℕ × Source)) (key : ℕ) (writer : TxnId) → Contains reads (key, By writer) → (¬ IsReceived marks writer) → Contains (awaited_of marks reader reads) (read_of reader key writer)
awaited_complete marks reader [] key writer there waits = absurd (omega (arith, there.1))
awaited_complete marks reader ((k, Init) ∷ more) key writer there waits = onwards there (λ h. awaited_complete marks reader more key writer h waits)
  where
    wrong : ◌≡◌ {A = ℕ × Source} (k, Init) (key, By writer) → ⊥
    wrong e = let source : Init ≡ By writer = ap (λ (r : ℕ × Source). r.1) e in cc

    onwards : Contains ((k, Init) ∷ more) (key, By writer) → (Contains more (key, By writer) → Contains (awaited_of marks reader more) (read_of reader key writer)) → Contains (awaited_of marks reader more) (read_of reader key writer)
    onwards (zero, within, is) rest = absurd (wrong is)
    onwards (suc n, within, is) rest = rest (n, omega arith, is)
awaited_complete marks reader ((k, By w) ∷ more) key writer there waits = by_test (nat_lt w.number (mark_at marks w.session).received) refl there (λ h. awaited_complete marks reader more key writer h waits)
  where
    by_test : (t : Bool) → nat_lt w.number (mark_at marks w.session).received ≡ t → Contains ((k, By w) ∷ more) (key, By writer) → (Contains more (key, By writer) → Contains (awaited_of marks reader more) (read_of reader key writer)) → Contains (cond t (awaited_of marks reader more) (read_of reader k w ∷ awaited_of marks reader more)) (read_of reader key writer)
    by_test true test (zero, within, is) rest =
        let source : By w ≡ By writer = ap (λ (r : ℕ × Source). r.1) is in
        let same : w ≡ writer = cc in
        absurd (waits (subst (IsReceived marks) same (ltb-true w.number (mark_at marks w.session).received test)))
    by_test true test (suc n, within, is) rest = rest (n, omega arith, is)
    by_test false test (zero, within, is) rest =
        let source : By w ≡ By writer = ap (λ (r : ℕ × Source). r.1) is in
        let same : w ≡ writer = cc in
        let keys : k ≡ key = ap (λ (r : ℕ × Source). r.0) is in
        (0, omega arith, λ i. record { reader = reader; key = keys i; writer = same i })
    by_test false test (suc n, within, is) rest = later (awaited_of marks reader more) (read_of reader key writer) (read_of reader k w) (rest (n, omega arith, is))

apart_of : (marks : List SessionMark) (reader : TxnId) (reads : List (ℕ × Source)) → Apart reads → Apart (awaited_of marks reader reads)
apart_of marks reader [] h = tt
apart_of marks reader ((key, Init) ∷ more) h = apart_of marks reader more h.1
apart_of marks reader ((key, By writer) ∷ more) h = by_test (nat_lt writer.number (mark_at marks writer.session).received) (apart_of marks reader more h.1)
  where
    by_test : (t : Bool) → Apart (awaited_of marks reader more) → Apart (cond t (awaited_of marks reader more) (read_of reader key writer ∷ awaited_of marks reader more))
    by_test true rest = rest
    by_test false rest = ((λ there. h.0 (awaited_sound marks reader more (read_of reader key writer) there).1), rest)

-- the reads of transactions one after another

abbrev pub id_of : ℕ → ℕ → TxnId
id_of s number = record { session = s; number = number }

-- a read is one of a transaction's at some place
pub record IsReadAt (marks : List SessionMark) (s first : ℕ) (txns : List Txn) (x : PendingRead) : Type 0 where
  pub place : ℕ
  pub txn : Txn
  pub at : slice_get txns place ≡ Some txn
  pub reader : x.reader ≡ id_of s (first + place)
  pub reads : Contains txn.reads (x.key, By x.writer)
  pub waits : ¬ IsReceived marks x.writer

pub from_sound : (marks : List SessionMark) (s first : ℕ) (txns : List Txn) (x : PendingRead) → Contains (awaited_from marks s first txns) x → IsReadAt marks s first txns x
from_sound marks s first [] x there = absurd (omega (arith, there.1))
from_sound marks s first (txn ∷ more) x there = by_part (Contains-append_cases (awaited_of marks (id_of s first) txn.reads) (awaited_from marks s (first + 1) more) x there) (from_sound marks s (first + 1) more x)
  where
    by_part : Contains (awaited_of marks (id_of s first) txn.reads) x ⊎ Contains (awaited_from marks s (first + 1) more) x → (Contains (awaited_from marks s (first + 1) more) x → IsReadAt marks s (first + 1) more x) → IsReadAt marks s first (txn ∷ more) x
    by_part (inl h) rest =
        let sound = awaited_sound marks (id_of s first) txn.reads x h in
        let at : first ≡ first + 0 = omega arith in
        record { place = 0; txn = txn; at = refl; reader = sound.0 ∙ ap (id_of s) at; reads = sound.1; waits = sound.2 }
    by_part (inr h) rest =
        let one = rest h in
        let at : first + 1 + one.place ≡ first + suc one.place = omega arith in
        record { place = suc one.place; txn = one.txn; at = one.at; reader = one.reader ∙ ap (id_of s) at; reads = one.reads; waits = one.waits }

pub from_complete : (marks : List SessionMark) (s first : ℕ) (txns : List Txn) (place : ℕ) (txn : Txn) (key : ℕ) (writer : TxnId) → slice_get txns place ≡ Some txn → Contains txn.reads (key, By writer) → (¬ IsReceived marks writer) → Contains (awaited_from marks s first txns) (read_of (id_of s (first + place)) key writer)
from_complete marks s first [] place txn key writer at reads waits = absurd cc
from_complete marks s first (t ∷ more) zero txn key writer at reads waits =
    let same : t ≡ txn = cc in
    let here : first ≡ first + 0 = omega arith in
    let one = awaited_complete marks (id_of s first) t.reads key writer (subst (λ (u : Txn). Contains u.reads (key, By writer)) (sym same) reads) waits in
    Contains-append_left (awaited_of marks (id_of s first) t.reads) (awaited_from marks s (first + 1) more) (read_of (id_of s (first + 0)) key writer) (subst (λ n. Contains (awaited_of marks (id_of s first) t.reads) (read_of (id_of s n) key writer)) here one)
from_complete marks s first (t ∷ more) (suc place) txn key writer at reads waits =
    let there : first + 1 + place ≡ first + suc place = omega arith in
    let one = from_complete marks s (first + 1) more place txn key writer at reads waits in
    Contains-append_right (awaited_of marks (id_of s first) t.reads) (awaited_from marks s (first + 1) more) (read_of (id_of s (first + suc place)) key writer) (subst (λ n. Contains (awaited_from marks s (first + 1) more) (read_of (id_of s n) key writer)) there one)

apart_from : (marks : List SessionMark) (s first : ℕ) (txns : List Txn) → ((n : ℕ) (txn : Txn) → slice_get txns n ≡ Some txn → Rises read_below txn.reads) → Apart (awaited_from marks s first txns)
apart_from marks s first [] rise = tt
apart_from marks s first (txn ∷ more) rise =
    apart_append (awaited_of marks (id_of s first) txn.reads) (awaited_from marks s (first + 1) more) (apart_of marks (id_of s first) txn.reads (apart_reads txn.reads (rise 0 txn refl))) (apart_from marks s (first + 1) more (λ n t at. rise (suc n) t at))
    (λ x one other.
    let here = (awaited_sound marks (id_of s first) txn.reads x one).0 in
    let there = from_sound marks s (first + 1) more x other in
    let numbers : first ≡ first + 1 + there.place = ap (λ (id : TxnId). id.number) (sym here ∙ there.reader) in
    omega (arith, numbers))

-- none of a fragment's reads stands twice
pub awaited_once : (marks : List SessionMark) (s first : ℕ) (txns : List Txn) → ((n : ℕ) (txn : Txn) → slice_get txns n ≡ Some txn → Rises read_below txn.reads) → AllPairs (λ earlier later. earlier ≢ later) (awaited_from marks s first txns)
awaited_once marks s first txns rise = pairs_from_apart (awaited_from marks s first txns) (apart_from marks s first txns rise)

-- what is found past the end of a list

abbrev pub no_txn : Txn
no_txn = record { reads = []; writes = [] }

abbrev pub no_read : ℕ × Source
no_read = (0, Init)

-- one read more, one transaction more

awaited_append : (marks : List SessionMark) (reader : TxnId) (xs ys : List (ℕ × Source)) → awaited_of marks reader (xs ++ ys) ≡ awaited_of marks reader xs ++ awaited_of marks reader ys
awaited_append marks reader [] ys = refl
awaited_append marks reader ((key, Init) ∷ xs) ys = awaited_append marks reader xs ys
awaited_append marks reader ((key, By writer) ∷ xs) ys =
    elim (nat_lt writer.number (mark_at marks writer.session).received) as (λ t. cond t (awaited_of marks reader (xs ++ ys)) (read_of reader key writer ∷ awaited_of marks reader (xs ++ ys)) ≡ cond t (awaited_of marks reader xs) (read_of reader key writer ∷ awaited_of marks reader xs) ++ awaited_of marks reader ys) [
      | true ↦ awaited_append marks reader xs ys
      | false ↦ ap (λ more. read_of reader key writer ∷ more) (awaited_append marks reader xs ys)
    ]

pub awaited_more : (marks : List SessionMark) (reader : TxnId) (reads : List (ℕ × Source)) (place : ℕ) (d : ℕ × Source) → place < length reads → awaited_of marks reader (take (place + 1) reads) ≡ awaited_of marks reader (take place reads) ++ awaited_of marks reader (get_or reads place d ∷ [])
awaited_more marks reader reads place d within =
    ap (awaited_of marks reader) (take_more reads place d within) ∙ awaited_append marks reader (take place reads) (get_or reads place d ∷ [])

from_append : (marks : List SessionMark) (s first : ℕ) (xs ys : List Txn) → awaited_from marks s first (xs ++ ys) ≡ awaited_from marks s first xs ++ awaited_from marks s (first + length xs) ys
from_append marks s first [] ys = let here : first ≡ first + 0 = omega arith in ap (λ n. awaited_from marks s n ys) here
from_append marks s first (txn ∷ xs) ys =
    let there : first + 1 + length xs ≡ first + suc (length xs) = omega arith in
    ap (λ more. awaited_of marks (id_of s first) txn.reads ++ more) (from_append marks s (first + 1) xs ys ∙ ap (λ n. awaited_from marks s (first + 1) xs ++ awaited_from marks s n ys) there)
    ∙ sym (append_assoc (awaited_of marks (id_of s first) txn.reads) (awaited_from marks s (first + 1) xs) (awaited_from marks s (first + suc (length xs)) ys))

pub from_more : (marks : List SessionMark) (s first : ℕ) (txns : List Txn) (place : ℕ) (d : Txn) → place < length txns → awaited_from marks s first (take (place + 1) txns) ≡ awaited_from marks s first (take place txns) ++ awaited_of marks (id_of s (first + place)) (get_or txns place d).reads
from_more marks s first txns place d within =
    let long : length (take place txns) ≡ place = length-take-le place txns (omega (arith, within)) in
    ap (awaited_from marks s first) (take_more txns place d within) ∙ from_append marks s first (take place txns) (get_or txns place d ∷ [])
    ∙ ap (λ more. awaited_from marks s first (take place txns) ++ more) (append-nil (awaited_of marks (id_of s (first + length (take place txns))) (get_or txns place d).reads) ∙ ap (λ n. awaited_of marks (id_of s (first + n)) (get_or txns place d).reads) long)
