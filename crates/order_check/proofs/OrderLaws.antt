-- Every order that explains the parts keeps the known relation.
use Rattle.std.proofs.Common.{◌≡◌, ◌≢◌, ℕ, ◌+◌, ◌-◌, ◌<◌, ◌≤◌, ◌⊎◌, Bool, true, false, cond, List, ◌∷◌, ◌++◌, length, Some, None, Option, refl, sym, subst, ◌∙◌, inl, inr, arith, suc, zero, ap, IsSome, nat_lt}
use Rattle.std.specs.Prelude.{Contains, IsSomeAnd}
use Rattle.std.specs.List.{slice_get}
use Rattle.std.proofs.lemmas.Bool.{false≢true, eq-eqb, ltb-false, cases_lt}
use Rattle.std.proofs.lemmas.Option.{slice_get_within, get_or_from_slice_get}
use Rattle.list_lemmas.proofs.Places.{filtered_at, precedes_filtered, precedes_filter, place_in, place_left, place_right, split_at, IsAt}
use Rattle.list_lemmas.specs.Precedes.{Precedes}
use Rattle.txn.specs.declared.transactions.TxnId.{TxnId}
use Rattle.txn.specs.declared.transactions.Txn.{Txn}
use Rattle.txn.specs.declared.transactions.Source.{Source}
use Rattle.txn.specs.declared.transactions.Source.TheVariants.{Init, By}
use Rattle.txn.specs.declared.choices.Choice.{Choice}
use Rattle.txn.specs.History.{in_session, ids_from, writes_key, NoneWrites, IsLastWriter}
use Rattle.order_check.specs.declared.remainder.Parts.{Parts}
use Rattle.order_check.specs.Based.{mark_of, remaining_of, remaining_ids, remaining_at, Remains, HasGoneBase}
use Rattle.order_check.specs.Explains.{Explains, Meets}
use Rattle.order_check.specs.Known.{IsChoice, ReadsKey, WritesKey, ReadsBase, IsBaseSource}
use Rattle.order_check.proofs.SessionIds.{ids_from_at, id_at_place}

-- an id is in its session
pub in_own_session : (id : TxnId) → in_session id.session id ≡ true
in_own_session id = eq-eqb id.session id.session refl

-- what remains stands among its session's ids, at its place there
pub remains_place : (parts : Parts) (id : TxnId) → Remains parts id → (mark_of parts id.session ≤ id.number) × (slice_get (remaining_ids parts id.session) (id.number - mark_of parts id.session) ≡ Some id)
remains_place parts id h = by_mark (nat_lt id.number mark) refl h
  where
    mark : ℕ
    mark = mark_of parts id.session

    txns : List Txn
    txns = remaining_of parts id.session

    by_found : (found : Option Txn) → slice_get txns (id.number - mark) ≡ found → IsSome found → mark ≤ id.number → slice_get (ids_from id.session mark txns) (id.number - mark) ≡ Some id
    by_found None e some above = absurd (false≢true some)
    by_found (Some txn) e some above =
        let n : mark + (id.number - mark) ≡ id.number = omega arith in
        ids_from_at id.session mark txns (id.number - mark) (slice_get_within txns (id.number - mark) txn e) ∙ ap (λ n. Some (record { session = id.session; number = n })) n

    by_mark : (t : Bool) → nat_lt id.number mark ≡ t → IsSome (cond t None (slice_get txns (id.number - mark))) → (mark ≤ id.number) × (slice_get (ids_from id.session mark txns) (id.number - mark) ≡ Some id)
    by_mark true e some = absurd (false≢true some)
    by_mark false e some = let above = ltb-false id.number mark e in (above, by_found (slice_get txns (id.number - mark)) refl some above)

-- what remains stands in an order that explains the parts
pub stands : (parts : Parts) (order : List TxnId) (id : TxnId) → Explains parts order → Remains parts id → IsAt order id
stands parts order id h remains =
    let at : IsAt (remaining_ids parts id.session) id = (id.number - mark_of parts id.session, (remains_place parts id remains).1) in
    filtered_at (in_session id.session) order id (subst (λ ids. IsAt ids id) (sym (h.sessions id.session)) at)

-- in an order that explains the parts nothing stands twice
pub never_twice : (parts : Parts) (order : List TxnId) (id : TxnId) → Explains parts order → ¬ Precedes order id id
never_twice parts order id h twice =
    let own = in_own_session id in
    let among : Precedes (remaining_ids parts id.session) id id = subst (λ ids. Precedes ids id id) (h.sessions id.session) (precedes_filter (in_session id.session) order id id own own twice) in
    apart among
  where
    apart : Precedes (remaining_ids parts id.session) id id → ⊥
    apart (i, j, below, here, there) =
        let first = (id_at_place id.session (mark_of parts id.session) (remaining_of parts id.session) i id here).2 in
        let second = (id_at_place id.session (mark_of parts id.session) (remaining_of parts id.session) j id there).2 in
        omega arith

-- so a place is known by what stands there
pub one_place : (parts : Parts) (order : List TxnId) (id : TxnId) (i j : ℕ) → Explains parts order → slice_get order i ≡ Some id → slice_get order j ≡ Some id → i ≡ j
one_place parts order id i j h here there = by_order (cases_lt i j) (cases_lt j i)
  where
    by_order : (i < j) ⊎ (j ≤ i) → (j < i) ⊎ (i ≤ j) → i ≡ j
    by_order (inl below) other = absurd (never_twice parts order id h (i, j, below, here, there))
    by_order (inr above) (inl below) = absurd (never_twice parts order id h (j, i, below, there, here))
    by_order (inr above) (inr below) = omega arith

pub precedes_through : (parts : Parts) (order : List TxnId) (a b d : TxnId) → Explains parts order → Precedes order a b → Precedes order b d → Precedes order a d
precedes_through parts order a b d h (i, j, below, ha, hb) (k, l, below', hb', hd) = let same = one_place parts order b j k h hb hb' in (i, l, omega arith, ha, hd)

-- of two in a session that remain, the lower number stands first
pub session_precedes : (parts : Parts) (order : List TxnId) (a b : TxnId) → Explains parts order → Remains parts a → Remains parts b → a.session ≡ b.session → a.number < b.number → Precedes order a b
session_precedes parts order a b h ra rb same below =
    let pa = remains_place parts a ra in
    let pb = subst (λ s. (mark_of parts s ≤ b.number) × (slice_get (remaining_ids parts s) (b.number - mark_of parts s) ≡ Some b)) (sym same) (remains_place parts b rb) in
    let among : Precedes (remaining_ids parts a.session) a b = (a.number - mark_of parts a.session, b.number - mark_of parts a.session, omega (arith, pa.0, pb.0), pa.1, pb.1) in
    precedes_filtered (in_session a.session) order a b (subst (λ ids. Precedes ids a b) (sym (h.sessions a.session)) among)

-- who writes a key remains, as does who reads one
pub writer_remains : (parts : Parts) (id : TxnId) (key : ℕ) → WritesKey parts id key → Remains parts id
writer_remains parts id key h = by_found (remaining_at parts id) h
  where
    by_found : (found : Option Txn) → writes_key found key ≡ true → IsSome found
    by_found None e = e
    by_found (Some txn) e = refl

pub reader_remains : (parts : Parts) (id : TxnId) (key : ℕ) (source : Source) → ReadsKey parts id key source → Remains parts id
reader_remains parts id key source h = by_found (remaining_at parts id) h
  where
    by_found : (found : Option Txn) → IsSomeAnd found (λ txn. Contains txn.reads (key, source)) → IsSome found
    by_found None e = absurd e
    by_found (Some txn) e = refl

-- what stands in front of a reader meets its read
pub read_met : (parts : Parts) (front back : List TxnId) (reader : TxnId) (key : ℕ) (source : Source) → Explains parts (front ++ reader ∷ back) → ReadsKey parts reader key source → Meets parts front key source
read_met parts front back reader key source h reads = by_found (remaining_at parts reader) refl reads
  where
    by_found : (found : Option Txn) → remaining_at parts reader ≡ found → IsSomeAnd found (λ txn. Contains txn.reads (key, source)) → Meets parts front key source
    by_found None e read = absurd read
    by_found (Some txn) e (k, within, is) =
        let met = h.reads front back reader refl txn e k (key, source) within in
        subst (λ (read : ℕ × Source). Meets parts front read.0 read.1) is met

-- a writer of the key that stands in front of a reader is the one that it reads from, or stands before it
pub front_writer : (parts : Parts) (front : List TxnId) (key : ℕ) (writer other : TxnId) → IsLastWriter (remaining_at parts) key front writer → WritesKey parts other key → IsAt front other → (other ≡ writer) ⊎ Precedes front other writer
front_writer parts front key writer other (older, newer, is, wrote, none) writes (v, at) = by_side (place_in older (writer ∷ newer) v other (subst (λ ids. slice_get ids v ≡ Some other) is at))
  where
    there : slice_get front (length older + 0) ≡ Some writer
    there = subst (λ ids. slice_get ids (length older + 0) ≡ Some writer) (sym is) (place_right older (writer ∷ newer) 0 writer refl)

    by_place : (k : ℕ) → v ≡ length older + k → slice_get (writer ∷ newer) k ≡ Some other → (other ≡ writer) ⊎ Precedes front other writer
    by_place zero e here = inl cc
    by_place (suc k) e here =
        let silent = none k writer (slice_get_within newer k other here) in
        let same = get_or_from_slice_get newer k other writer here in
        let quiet : writes_key (remaining_at parts other) key ≡ false = subst (λ id. writes_key (remaining_at parts id) key ≡ false) same silent in
        absurd (false≢true (sym quiet ∙ writes))

    by_side : (slice_get older v ≡ Some other) ⊎ ((k : ℕ) × (v ≡ length older + k) × (slice_get (writer ∷ newer) k ≡ Some other)) → (other ≡ writer) ⊎ Precedes front other writer
    by_side (inl here) = let within = slice_get_within older v other here in inr (v, length older + 0, omega arith, at, there)
    by_side (inr (k, e, here)) = by_place k e here

-- the reader of a key and another writer of it, in an order that explains the parts
pub record ReaderAndWriter (parts : Parts) (order : List TxnId) (reader other : TxnId) (key : ℕ) (source : Source) : Type 0 where
  pub place : ℕ
  pub front : List TxnId
  pub back : List TxnId
  pub is : order ≡ front ++ reader ∷ back
  pub here : slice_get order place ≡ Some reader
  pub long : length front ≡ place
  pub met : Meets parts front key source
  pub where_other : Precedes order reader other ⊎ IsAt front other

pub around_reader : (parts : Parts) (order : List TxnId) (reader other : TxnId) (key : ℕ) (source : Source) → Explains parts order → ReadsKey parts reader key source → WritesKey parts other key → other ≢ reader → ReaderAndWriter parts order reader other key source
around_reader parts order reader other key source h reads writes apart = by_places (stands parts order reader h (reader_remains parts reader key source reads)) (stands parts order other h (writer_remains parts other key writes))
  where
    by_places : IsAt order reader → IsAt order other → ReaderAndWriter parts order reader other key source
    by_places (t, here) (v, there) = by_split (split_at order t reader here)
      where
        by_split : (front back : List TxnId) × (order ≡ front ++ reader ∷ back) × (length front ≡ t) → ReaderAndWriter parts order reader other key source
        by_split (front, back, is, long) = record {
          place = t;
          front = front;
          back = back;
          is = is;
          here = here;
          long = long;
          met = read_met parts front back reader key source (subst (λ ids. Explains parts ids) is h) reads;
          where_other = by_side (place_in front (reader ∷ back) v other (subst (λ ids. slice_get ids v ≡ Some other) is there));
        }
          where
            by_place : (k : ℕ) → v ≡ length front + k → slice_get (reader ∷ back) k ≡ Some other → Precedes order reader other ⊎ IsAt front other
            by_place zero e at = absurd (apart cc)
            by_place (suc k) e at = inl (t, v, omega arith, here, there)

            by_side : (slice_get front v ≡ Some other) ⊎ ((k : ℕ) × (v ≡ length front + k) × (slice_get (reader ∷ back) k ≡ Some other)) → Precedes order reader other ⊎ IsAt front other
            by_side (inl at) = inr (v, at)
            by_side (inr (k, e, at)) = by_place k e at

-- what stands before another in a front stands before it in the order
pub precedes_left : {X : Type 0} (xs ys : List X) (a b : X) → Precedes xs a b → Precedes (xs ++ ys) a b
precedes_left xs ys a b (i, j, below, here, there) = (i, j, below, place_left xs ys i a here, place_left xs ys j b there)

-- the choice's other writer stands after the reader, or before the writer
pub choice_sides : (parts : Parts) (order : List TxnId) (choice : Choice) → Explains parts order → IsChoice parts choice → Precedes order choice.reader choice.other ⊎ Precedes order choice.other choice.writer
choice_sides parts order choice h is = by_place (around_reader parts order choice.reader choice.other choice.key (By choice.writer) h is.reads is.other is.not_reader)
  where
    by_place : ReaderAndWriter parts order choice.reader choice.other choice.key (By choice.writer) → Precedes order choice.reader choice.other ⊎ Precedes order choice.other choice.writer
    by_place around = by_side around.where_other
      where
        by_writer : (choice.other ≡ choice.writer) ⊎ Precedes around.front choice.other choice.writer → Precedes order choice.reader choice.other ⊎ Precedes order choice.other choice.writer
        by_writer (inl same) = absurd (is.not_writer same)
        by_writer (inr before) = inr (subst (λ ids. Precedes ids choice.other choice.writer) (sym around.is) (precedes_left around.front (choice.reader ∷ around.back) choice.other choice.writer before))

        by_side : Precedes order choice.reader choice.other ⊎ IsAt around.front choice.other → Precedes order choice.reader choice.other ⊎ Precedes order choice.other choice.writer
        by_side (inl after) = inl after
        by_side (inr at) = by_writer (front_writer parts around.front choice.key choice.writer choice.other (around.met.remaining (writer_remains parts choice.writer choice.key is.written)) is.other at)

-- who reads from a writer that remains stands after it
pub read_precedes : (parts : Parts) (order : List TxnId) (reader writer : TxnId) (key : ℕ) → Explains parts order → ReadsKey parts reader key (By writer) → WritesKey parts writer key → Precedes order writer reader
read_precedes parts order reader writer key h reads writes = by_place (stands parts order reader h (reader_remains parts reader key (By writer) reads))
  where
    by_place : IsAt order reader → Precedes order writer reader
    by_place (t, here) = by_split (split_at order t reader here)
      where
        by_split : (front back : List TxnId) × (order ≡ front ++ reader ∷ back) × (length front ≡ t) → Precedes order writer reader
        by_split (front, back, is, long) = by_last ((read_met parts front back reader key (By writer) (subst (λ ids. Explains parts ids) is h) reads).remaining (writer_remains parts writer key writes))
          where
            by_last : IsLastWriter (remaining_at parts) key front writer → Precedes order writer reader
            by_last (older, newer, parted, wrote, none) =
                let among : slice_get front (length older + 0) ≡ Some writer = subst (λ ids. slice_get ids (length older + 0) ≡ Some writer) (sym parted) (place_right older (writer ∷ newer) 0 writer refl) in
                let within = slice_get_within front (length older + 0) writer among in
                let first : slice_get order (length older + 0) ≡ Some writer = subst (λ ids. slice_get ids (length older + 0) ≡ Some writer) (sym is) (place_left front (reader ∷ back) (length older + 0) writer among) in
                (length older + 0, t, omega arith, first, here)

-- who reads a key from the base stands before every other writer of the key
pub base_precedes : (parts : Parts) (order : List TxnId) (reader other : TxnId) (key : ℕ) → HasGoneBase parts → Explains parts order → ReadsBase parts reader key → WritesKey parts other key → other ≢ reader → Precedes order reader other
base_precedes parts order reader other key good h (source, reads, from_base) writes apart = by_place (around_reader parts order reader other key source h reads writes apart)
  where
    nothing : (front : List TxnId) (source : Source) → IsBaseSource parts key source → Meets parts front key source → NoneWrites (remaining_at parts) key front
    nothing front Init base met = met.1
    nothing front (By writer) base met = (met.gone (good key writer base)).1

    by_place : ReaderAndWriter parts order reader other key source → Precedes order reader other
    by_place around = by_side around.where_other
      where
        by_side : Precedes order reader other ⊎ IsAt around.front other → Precedes order reader other
        by_side (inl after) = after
        by_side (inr (v, at)) =
            let silent = nothing around.front source from_base around.met v other (slice_get_within around.front v other at) in
            let same = get_or_from_slice_get around.front v other other at in
            let quiet : writes_key (remaining_at parts other) key ≡ false = subst (λ id. writes_key (remaining_at parts id) key ≡ false) same silent in
            absurd (false≢true (sym quiet ∙ writes))
