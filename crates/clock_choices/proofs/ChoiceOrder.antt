-- The order of choices, and of the reads and ids that they are looked up by.
use Rattle.std.proofs.Common.{◌≡◌, ◌⊎◌, ◌∙◌, ◌&&◌, ◌||◌, ℕ, zero, suc, ◌+◌, ◌-◌, ◌<◌, ◌≤◌, nat_eq, nat_lt, Bool, true, false, cond, List, Some, None, length, get_or, refl, ap, subst, inl, inr, arith}
use Rattle.std.specs.List.{AllPairs, slice_get}
use Rattle.std.proofs.lemmas.Bool.{and_from, and_parts, cases_lt, eq-eqb, eqb-true, false≢true, lt-ltb, ltb-true, or_cases, or_right}
use Rattle.txn.specs.declared.transactions.TxnId.{TxnId}
use Rattle.txn.specs.declared.transactions.Txn.{Txn}
use Rattle.txn.specs.declared.transactions.Source.{Source}
use Rattle.txn.specs.declared.transactions.Source.TheVariants.{By, Init}
use Rattle.txn.specs.declared.choices.Choice.{Choice}
use Rattle.txn.specs.Choices.{choice_below}
use Rattle.txn.specs.Transactions.{Rises, id_below, read_below, same_id, source_below}
use Rattle.txn.proofs.Ids.{below_is, same_id_from}
use Rattle.order_check.specs.declared.remainder.Parts.{Parts}
use Rattle.order_check.specs.Based.{mark_of, remaining_at, remaining_of}
use Rattle.order_check.specs.Good.{IsGood}

pub below_by_reader : (a b : Choice) → id_below a.reader b.reader ≡ true → choice_below a b ≡ true
below_by_reader a b h = ap (λ t. t || (same_id a.reader b.reader && (nat_lt a.key b.key || (nat_eq a.key b.key && (id_below a.writer b.writer || (same_id a.writer b.writer && id_below a.other b.other)))))) h

pub below_by_key : (a b : Choice) → a.reader ≡ b.reader → a.key < b.key → choice_below a b ≡ true
below_by_key a b same below =
    or_right (id_below a.reader b.reader) _ (and_from (same_id a.reader b.reader) _ (same_id_from a.reader b.reader same)
    (ap (λ t. t || (nat_eq a.key b.key && (id_below a.writer b.writer || (same_id a.writer b.writer && id_below a.other b.other)))) (lt-ltb a.key b.key below)))

pub below_by_writer : (a b : Choice) → a.reader ≡ b.reader → a.key ≡ b.key → id_below a.writer b.writer ≡ true → choice_below a b ≡ true
below_by_writer a b same key below =
    or_right (id_below a.reader b.reader) _ (and_from (same_id a.reader b.reader) _ (same_id_from a.reader b.reader same)
    (or_right (nat_lt a.key b.key) _ (and_from (nat_eq a.key b.key) _ (eq-eqb a.key b.key key)
    (ap (λ t. t || (same_id a.writer b.writer && id_below a.other b.other)) below))))

pub below_by_other : (a b : Choice) → a.reader ≡ b.reader → a.key ≡ b.key → a.writer ≡ b.writer → id_below a.other b.other ≡ true → choice_below a b ≡ true
below_by_other a b same key writer below =
    or_right (id_below a.reader b.reader) _ (and_from (same_id a.reader b.reader) _ (same_id_from a.reader b.reader same)
    (or_right (nat_lt a.key b.key) _ (and_from (nat_eq a.key b.key) _ (eq-eqb a.key b.key key)
    (or_right (id_below a.writer b.writer) _ (and_from (same_id a.writer b.writer) _ (same_id_from a.writer b.writer writer) below)))))

pub id_below_from : (a b : TxnId) → (a.session < b.session) ⊎ ((a.session ≡ b.session) × (a.number < b.number)) → id_below a b ≡ true
id_below_from a b (inl l) = ap (λ t. t || (nat_eq a.session b.session && nat_lt a.number b.number)) (lt-ltb a.session b.session l)
id_below_from a b (inr (e, l)) = or_right (nat_lt a.session b.session) _ (and_from (nat_eq a.session b.session) _ (eq-eqb a.session b.session e) (lt-ltb a.number b.number l))

id_below_through : (a b c : TxnId) → id_below a b ≡ true → id_below b c ≡ true → id_below a c ≡ true
id_below_through a b c h k = id_below_from a c (by_parts (below_is a b h) (below_is b c k))
  where
    by_parts : (a.session < b.session) ⊎ ((a.session ≡ b.session) × (a.number < b.number)) → (b.session < c.session) ⊎ ((b.session ≡ c.session) × (b.number < c.number)) → (a.session < c.session) ⊎ ((a.session ≡ c.session) × (a.number < c.number))
    by_parts (inl l) (inl m) = inl (omega arith)
    by_parts (inl l) (inr (e, m)) = inl (omega arith)
    by_parts (inr (e, l)) (inl m) = inl (omega arith)
    by_parts (inr (e, l)) (inr (f, m)) = inr (e ∙ f, omega arith)

source_below_through : (a b c : Source) → source_below a b ≡ true → source_below b c ≡ true → source_below a c ≡ true
source_below_through Init Init c h k = absurd (false≢true h)
source_below_through Init (By b) Init h k = absurd (false≢true k)
source_below_through Init (By b) (By c) h k = refl
source_below_through (By a) Init c h k = absurd (false≢true h)
source_below_through (By a) (By b) Init h k = absurd (false≢true k)
source_below_through (By a) (By b) (By c) h k = id_below_through a b c h k

-- reads in order: by key, or of one key by source
pub read_cases : (a b : ℕ × Source) → read_below a b ≡ true → (a.0 < b.0) ⊎ ((a.0 ≡ b.0) × (source_below a.1 b.1 ≡ true))
read_cases a b h = by_part (or_cases (nat_lt a.0 b.0) (nat_eq a.0 b.0 && source_below a.1 b.1) h)
  where
    by_part : (nat_lt a.0 b.0 ≡ true) ⊎ ((nat_eq a.0 b.0 && source_below a.1 b.1) ≡ true) → (a.0 < b.0) ⊎ ((a.0 ≡ b.0) × (source_below a.1 b.1 ≡ true))
    by_part (inl l) = inl (ltb-true a.0 b.0 l)
    by_part (inr r) = let parts = and_parts (nat_eq a.0 b.0) (source_below a.1 b.1) r in inr (eqb-true a.0 b.0 parts.0, parts.1)

read_below_through : (a b c : ℕ × Source) → read_below a b ≡ true → read_below b c ≡ true → read_below a c ≡ true
read_below_through a b c h k = by_parts (read_cases a b h) (read_cases b c k)
  where
    by_key : a.0 < c.0 → read_below a c ≡ true
    by_key l = ap (λ t. t || (nat_eq a.0 c.0 && source_below a.1 c.1)) (lt-ltb a.0 c.0 l)

    by_parts : (a.0 < b.0) ⊎ ((a.0 ≡ b.0) × (source_below a.1 b.1 ≡ true)) → (b.0 < c.0) ⊎ ((b.0 ≡ c.0) × (source_below b.1 c.1 ≡ true)) → read_below a c ≡ true
    by_parts (inl l) (inl m) = by_key (omega arith)
    by_parts (inl l) (inr (e, m)) = by_key (omega arith)
    by_parts (inr (e, l)) (inl m) = by_key (omega arith)
    by_parts (inr (e, l)) (inr (f, m)) = or_right (nat_lt a.0 c.0) _ (and_from (nat_eq a.0 c.0) _ (eq-eqb a.0 c.0 (e ∙ f)) (source_below_through a.1 b.1 c.1 l m))

-- what rises from one to the next rises from each to those behind it
pub reads_pairs : (reads : List (ℕ × Source)) → Rises read_below reads → AllPairs (λ a b. read_below a b ≡ true) reads
reads_pairs reads rise i j d less within = upto j less within
  where
    upto : (k : ℕ) → i < k → k < length reads → read_below (get_or reads i d) (get_or reads k d) ≡ true
    upto zero order inside = absurd (omega arith)
    upto (suc k) order inside = by_place (λ below in_it. upto k below in_it) (cases_lt i k)
      where
        next : read_below (get_or reads k d) (get_or reads (suc k) d) ≡ true
        next = let more : k + 1 ≡ suc k = omega arith in subst (λ (m : ℕ). read_below (get_or reads k d) (get_or reads m d) ≡ true) more (rise k d (omega (arith, inside)))

        by_place : (i < k → k < length reads → read_below (get_or reads i d) (get_or reads k d) ≡ true) → (i < k) ⊎ (k ≤ i) → read_below (get_or reads i d) (get_or reads (suc k) d) ≡ true
        by_place so_far (inl below) = read_below_through (get_or reads i d) (get_or reads k d) (get_or reads (suc k) d) (so_far below (omega (arith, inside))) next
        by_place so_far (inr last) = let same : k ≡ i = omega (arith, order, last) in subst (λ (m : ℕ). read_below (get_or reads m d) (get_or reads (suc k) d) ≡ true) same next

-- so do the reads of what remains
pub reads_rise : (parts : Parts) (id : TxnId) (txn : Txn) → IsGood parts → remaining_at parts id ≡ Some txn → AllPairs (λ a b. read_below a b ≡ true) txn.reads
reads_rise parts id txn good found = by_mark (nat_lt id.number mark) refl found
  where
    mark : ℕ
    mark = mark_of parts id.session

    by_mark : (t : Bool) → nat_lt id.number mark ≡ t → cond t None (slice_get (remaining_of parts id.session) (id.number - mark)) ≡ Some txn → AllPairs (λ a b. read_below a b ≡ true) txn.reads
    by_mark true e h = absurd cc
    by_mark false e h =
        let formed = good.well_formed id.session (id.number - mark) txn h in
        let lists = formed.lists in
        reads_pairs txn.reads lists.reads_rise
