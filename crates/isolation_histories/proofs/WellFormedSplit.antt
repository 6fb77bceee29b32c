-- What a well-formed fragment is split into is well formed.
use Rattle.std.proofs.Common.{◌≡◌, ◌≢◌, ℕ, zero, suc, ◌+◌, ◌*◌, ◌<◌, ◌≤◌, ◌^◌, ◌⊎◌, Bool, true, false, cond, ◌||◌, ◌&&◌, List, [], ◌∷◌, length, Some, refl, sym, ap, subst, ◌∙◌, inl, inr, arith, nat_lt}
use Rattle.std.specs.Prelude.{map, All, nat_eq}
use Rattle.std.specs.List.{slice_get, slice_index_or}
use Rattle.std.proofs.lemmas.Bool.{ltb-true, lt-ltb, false≢true}
use Rattle.std.proofs.lemmas.Bool.Decides.{eqb_tells}
use Rattle.std.proofs.lemmas.List.{length-map, get_or-map}
use Rattle.std.proofs.lemmas.List.Elements.{All-map, All-cons, All-head, All-tail}
use Rattle.std.proofs.lemmas.Option.{slice_get_within, get_or_from_slice_get}
use Rattle.txn.specs.declared.transactions.TxnId.{TxnId}
use Rattle.txn.specs.declared.transactions.Source.{Source}
use Rattle.txn.specs.declared.transactions.Source.TheVariants.{Init, By}
use Rattle.txn.specs.declared.transactions.Txn.{Txn}
use Rattle.txn.specs.declared.transactions.Fragment.{Fragment}
use Rattle.txn.specs.Transactions.{id_below, source_below, read_below, Rises, IsSourceFor, KeepsEpoch, IsWellFormed, IsShort, id_in, IsWellFormedFragment}
use Rattle.order_check.specs.StandsFor.{IsFenceFrom}
use Rattle.isolation_histories.specs.Halves.{begin_half, commit_half}
use Rattle.isolation_histories.specs.Split.{star, split_source, begin_read_of, commit_read_of, begin_txn, commit_txn, split_txns, split_of}
use Rattle.isolation_histories.specs.Splittable.{IsLowSource, HasLowNumbers, IsSplittable}
use Rattle.isolation_histories.proofs.Lookups.{star_of_one}

-- stars rise as their keys do
star_rises : (a b : ℕ) → nat_lt a b ≡ true → nat_lt (star a) (star b) ≡ true
star_rises a b below = by_zero (eqb_tells a 0) (eqb_tells b 0)
  where
    less : a < b
    less = ltb-true a b below

    by_zero : ((nat_eq a 0 ≡ true) × (a ≡ 0)) ⊎ ((nat_eq a 0 ≡ false) × (a ≡ 0 → ⊥)) → ((nat_eq b 0 ≡ true) × (b ≡ 0)) ⊎ ((nat_eq b 0 ≡ false) × (b ≡ 0 → ⊥)) → nat_lt (star a) (star b) ≡ true
    by_zero _ (inl y) = let e = y.1 in absurd (omega (arith, less, e))
    by_zero (inl x) (inr y) =
        let p : star a ≡ 0 = ap (λ t. cond t 0 (a + 2 ^ 63)) x.0 in
        let q : star b ≡ b + 2 ^ 63 = ap (λ t. cond t 0 (b + 2 ^ 63)) y.0 in
        lt-ltb (star a) (star b) (omega (arith, p, q))
    by_zero (inr x) (inr y) =
        let p : star a ≡ a + 2 ^ 63 = ap (λ t. cond t 0 (a + 2 ^ 63)) x.0 in
        let q : star b ≡ b + 2 ^ 63 = ap (λ t. cond t 0 (b + 2 ^ 63)) y.0 in
        lt-ltb (star a) (star b) (omega (arith, p, q, less))

-- what rises, made into what rises
mapped_rises : {X Y : Type 0} (below : X → X → Bool) (other : Y → Y → Bool) (f : X → Y) (xs : List X) (d : X) → ((a b : X) → below a b ≡ true → other (f a) (f b) ≡ true) → Rises below xs → Rises other (map f xs)
mapped_rises {X} {Y} below other f xs d keeps rises = λ k e within.
    let size : length (map f xs) ≡ length xs = length-map xs f in
    let here : slice_index_or (map f xs) k e ≡ f (slice_index_or xs k d) = get_or-map f xs k d e (omega (arith, size, within)) in
    let next : slice_index_or (map f xs) (k + 1) e ≡ f (slice_index_or xs (k + 1) d) = get_or-map f xs (k + 1) d e (omega (arith, size, within)) in
    ap (λ y. other y (slice_index_or (map f xs) (k + 1) e)) here ∙ ap (other (f (slice_index_or xs k d))) next ∙ keeps (slice_index_or xs k d) (slice_index_or xs (k + 1) d) (rises k d (omega (arith, size, within)))

id_rises : (a b : TxnId) → id_below a b ≡ true → id_below (commit_half a) (commit_half b) ≡ true
id_rises a b below = by_session (nat_lt a.session b.session) (nat_eq a.session b.session) below
  where
    by_session : (t u : Bool) → (t || (u && nat_lt a.number b.number)) ≡ true → (t || (u && nat_lt (2 * a.number + 1) (2 * b.number + 1))) ≡ true
    by_session true u h = refl
    by_session false false h = absurd (false≢true h)
    by_session false true h = let less = ltb-true a.number b.number h in lt-ltb (2 * a.number + 1) (2 * b.number + 1) (omega (arith, less))

source_rises : (a b : Source) → source_below a b ≡ true → source_below (split_source a) (split_source b) ≡ true
source_rises Init Init h = h
source_rises Init (By b) h = refl
source_rises (By a) Init h = h
source_rises (By a) (By b) h = id_rises a b h

read_rises : (a b : ℕ × Source) → read_below a b ≡ true → read_below (begin_read_of a) (begin_read_of b) ≡ true
read_rises a b below = by_key (nat_lt a.0 b.0) (nat_eq a.0 b.0) below
  where
    by_key : (t u : Bool) → (t || (u && source_below a.1 b.1)) ≡ true → (t || (u && source_below (split_source a.1) (split_source b.1))) ≡ true
    by_key true u h = refl
    by_key false false h = absurd (false≢true h)
    by_key false true h = source_rises a.1 b.1 h

commit_read_rises : (id : TxnId) (a b : ℕ) → nat_lt a b ≡ true → read_below (commit_read_of id a) (commit_read_of id b) ≡ true
commit_read_rises id a b below = ap (λ t. t || (nat_eq (star a) (star b) && source_below (By (begin_half id)) (By (begin_half id)))) (star_rises a b below)

-- a source stays one that may be named
begin_source : (sessions : ℕ) (id : TxnId) (source : Source) → IsLowSource source → IsSourceFor sessions id source → IsSourceFor sessions (begin_half id) (split_source source)
begin_source sessions id Init low good = good
begin_source sessions id (By writer) low good = ((λ same. (let e : 2 * writer.number + 1 ≡ 2 * id.number = ap (λ (x : TxnId). x.number) same in omega (arith, e))), good.1, omega (arith, low))

commit_source : (sessions : ℕ) (id : TxnId) → id.session < sessions → id.number < 2 ^ 47 → IsSourceFor sessions (commit_half id) (By (begin_half id))
commit_source sessions id session number = ((λ same. (let e : 2 * id.number ≡ 2 * id.number + 1 = ap (λ (x : TxnId). x.number) same in omega (arith, e))), session, omega (arith, number))

-- the star of another key than the epoch key is another, too
star_not_zero : (k : ℕ) → k ≢ 0 → star k ≢ 0
star_not_zero k other is = other (star_of_one k 0 is)

pub begin_keeps_epoch : (txn : Txn) → KeepsEpoch txn → KeepsEpoch (begin_txn txn)
begin_keeps_epoch txn (inl (source, reads, writes)) = inl (split_source source, ap (map begin_read_of) reads, ap (map star) writes)
begin_keeps_epoch txn (inr spares) = inr (record {
  reads = All-map (λ read. read.0 ≢ 0) begin_read_of txn.reads (λ k d within. spares.reads k d within);
  writes = All-map (λ key. key ≢ 0) star txn.writes (λ k d within. star_not_zero (slice_index_or txn.writes k d) (spares.writes k d within));
})

pub commit_keeps_epoch : (id : TxnId) (txn : Txn) → KeepsEpoch txn → KeepsEpoch (commit_txn id txn)
commit_keeps_epoch id txn (inl (source, reads, writes)) = inl (By (begin_half id), ap (map (commit_read_of id)) writes, writes)
commit_keeps_epoch id txn (inr spares) = inr (record {
  reads = All-map (λ read. read.0 ≢ 0) (commit_read_of id) txn.writes (λ k d within. star_not_zero (slice_index_or txn.writes k d) (spares.writes k d within));
  writes = spares.writes;
})

begin_formed : (sessions : ℕ) (id : TxnId) (txn : Txn) → HasLowNumbers txn → IsWellFormed sessions id txn → IsWellFormed sessions (begin_half id) (begin_txn txn)
begin_formed sessions id txn low formed = record {
  lists = record {
    reads_rise = mapped_rises read_below read_below begin_read_of txn.reads (0, Init) read_rises formed.lists.reads_rise;
    writes_rise = mapped_rises nat_lt nat_lt star txn.writes 0 star_rises formed.lists.writes_rise;
    sources = All-map (λ read. IsSourceFor sessions (begin_half id) read.1) begin_read_of txn.reads (λ k d within. begin_source sessions id (slice_index_or txn.reads k d).1 (low.reads k d within).1 (formed.lists.sources k d within));
  };
  epoch = begin_keeps_epoch txn formed.epoch;
}

commit_formed : (sessions : ℕ) (id : TxnId) (txn : Txn) → id.session < sessions → id.number < 2 ^ 47 → IsWellFormed sessions id txn → IsWellFormed sessions (commit_half id) (commit_txn id txn)
commit_formed sessions id txn session number formed = record {
  lists = record {
    reads_rise = mapped_rises nat_lt read_below (commit_read_of id) txn.writes 0 (commit_read_rises id) formed.lists.writes_rise;
    writes_rise = formed.lists.writes_rise;
    sources = All-map (λ read. IsSourceFor sessions (commit_half id) read.1) (commit_read_of id) txn.writes (λ k d within. commit_source sessions id session number);
  };
  epoch = commit_keeps_epoch id txn formed.epoch;
}

begin_short : (txn : Txn) → IsShort txn → IsShort (begin_txn txn)
begin_short txn short = record {
  reads = subst (λ n. n ≤ 256) (sym (length-map txn.reads begin_read_of)) short.reads;
  writes = subst (λ n. n ≤ 256) (sym (length-map txn.writes star)) short.writes;
}

commit_short : (id : TxnId) (txn : Txn) → IsShort txn → IsShort (commit_txn id txn)
commit_short id txn short = record {
  reads = subst (λ n. n ≤ 256) (sym (length-map txn.writes (commit_read_of id))) short.writes;
  writes = short.writes;
}

-- there are twice as many
pub split_length : (s number : ℕ) (txns : List Txn) → length (split_txns s number txns) ≡ 2 * length txns
split_length s number [] = refl
split_length s number (txn ∷ txns) = let rest = split_length s (number + 1) txns in omega (arith, rest)

all_short : (s number : ℕ) (txns : List Txn) → All IsShort txns → All IsShort (split_txns s number txns)
all_short s number [] short = short
all_short s number (txn ∷ txns) short =
    let first : IsShort txn = All-head IsShort txn txns short in
    let id : TxnId = record { session = s; number = number } in
    All-cons IsShort (begin_txn txn) (commit_txn id txn ∷ split_txns s (number + 1) txns) (begin_short txn first)
    (All-cons IsShort (commit_txn id txn) (split_txns s (number + 1) txns) (commit_short id txn first) (all_short s (number + 1) txns (All-tail IsShort txn txns short)))

-- what stands at a place of the split ones comes from the transaction at half the place
at_place : (s number : ℕ) (txns : List Txn) (P : TxnId → Txn → Type 0) → ((k : ℕ) (txn : Txn) → slice_get txns k ≡ Some txn → P (record { session = s; number = 2 * (number + k) }) (begin_txn txn) × P (record { session = s; number = 2 * (number + k) + 1 }) (commit_txn (record { session = s; number = number + k }) txn)) → (n : ℕ) (half : Txn) → slice_get (split_txns s number txns) n ≡ Some half → P (record { session = s; number = 2 * number + n }) half
at_place s number [] P each n half h = absurd cc
at_place s number (txn ∷ txns) P each zero half h =
    let e : begin_txn txn ≡ half = cc in
    let n : 2 * (number + 0) ≡ 2 * number + 0 = omega arith in
    subst (P (record { session = s; number = 2 * number + 0 })) e (subst (λ n. P (record { session = s; number = n }) (begin_txn txn)) n (each 0 txn refl).0)
at_place s number (txn ∷ txns) P each (suc zero) half h =
    let same : number + 0 ≡ number = omega arith in
    let e : commit_txn (record { session = s; number = number }) txn ≡ half = cc in
    let n : 2 * (number + 0) + 1 ≡ 2 * number + 1 = omega arith in
    subst (P (record { session = s; number = 2 * number + 1 })) (ap (λ k. commit_txn (record { session = s; number = k }) txn) same ∙ e) (subst (λ n. P (record { session = s; number = n }) (commit_txn (record { session = s; number = number + 0 }) txn)) n (each 0 txn refl).1)
at_place s number (txn ∷ txns) P each (suc (suc n)) half h =
    let moved : 2 * (number + 1) + n ≡ 2 * number + suc (suc n) = omega arith in
    let shift : (k : ℕ) → number + suc k ≡ number + 1 + k = λ k. omega arith in
    subst (λ m. P (record { session = s; number = m }) half) moved
    (at_place s (number + 1) txns P (λ k t at. subst (λ m. P (record { session = s; number = 2 * m }) (begin_txn t) × P (record { session = s; number = 2 * m + 1 }) (commit_txn (record { session = s; number = m }) t)) (shift k) (each (suc k) t at)) n half h)

pub split_formed : (sessions : ℕ) (fragment : Fragment) → IsSplittable sessions fragment → length fragment.txns ≤ 128 → IsWellFormedFragment sessions (split_of fragment)
split_formed sessions fragment splittable few = record {
  session = splittable.well_formed.session;
  lengths = record {
    some = let size = split_length s first txns in let some = splittable.well_formed.lengths.some in omega (arith, size, some);
    few = let size = split_length s first txns in omega (arith, size, few);
    numbers = let size = split_length s first txns in let low = splittable.numbers in omega (arith, size, low);
    each = all_short s first txns splittable.well_formed.lengths.each;
  };
  txns = λ n half within at. at_place s first txns (IsWellFormed sessions) each n half at;
}
  where
    s : ℕ
    s = fragment.session

    first : ℕ
    first = fragment.first

    txns : List Txn
    txns = fragment.txns

    each : (k : ℕ) (txn : Txn) → slice_get txns k ≡ Some txn → IsWellFormed sessions (record { session = s; number = 2 * (first + k) }) (begin_txn txn) × IsWellFormed sessions (record { session = s; number = 2 * (first + k) + 1 }) (commit_txn (record { session = s; number = first + k }) txn)
    each k txn at =
        let within : k < length txns = slice_get_within txns k txn at in
        let formed : IsWellFormed sessions (id_in fragment k) txn = splittable.well_formed.txns k txn within at in
        let low : HasLowNumbers txn = subst HasLowNumbers (get_or_from_slice_get txns k txn txn at) (splittable.each k txn within) in
        let bound = splittable.numbers in
        let number : first + k < 2 ^ 47 = omega (arith, bound, within) in
        (begin_formed sessions (id_in fragment k) txn low formed, commit_formed sessions (id_in fragment k) txn splittable.well_formed.session number formed)

-- fences read from where they did
pub fences_split : (id source : TxnId) (txn : Txn) → IsFenceFrom source txn → IsFenceFrom (commit_half source) (begin_txn txn) × IsFenceFrom (begin_half id) (commit_txn id txn)
fences_split id source txn (reads, writes) = ((ap (map begin_read_of) reads, ap (map star) writes), (ap (map (commit_read_of id)) writes, writes))
