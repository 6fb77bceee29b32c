-- Reads that are added together, and taken back.
use Rattle.std.proofs.Common.{◌≡◌, ◌≢◌, ℕ, zero, suc, ◌+◌, ◌-◌, ◌<◌, ◌⊎◌, inl, inr, Bool, true, false, cond, refl, sym, ap, subst, ◌∙◌, List, [], ◌∷◌, ◌++◌, length, length-append, length-take-le, take, get_or, arith, append-nil}
use Rattle.std.specs.Prelude.{Contains}
use Rattle.std.proofs.lemmas.Bool.{false≢true}
use Rattle.std.proofs.lemmas.List.{append_assoc, take_more, length_push, get_or_append_left, get_or_default}
use Rattle.std.proofs.Math.Seq.{take-append_seam}
use Rattle.std.proofs.lemmas.List.Elements.{All-get_or}
use Rattle.list_lemmas.proofs.Members.{in_from_contains, contains_from_in, in_left, in_right, in_either}
use Rattle.list_lemmas.specs.Members.{In}
use Rattle.txn.specs.declared.transactions.TxnId.{TxnId}
use Rattle.txn.specs.Transactions.{same_id}
use Rattle.txn.proofs.Ids.{same_id_is, same_id_itself}
use Rattle.pending_reads.specs.declared.index.PendingRead.{PendingRead}
use Rattle.pending_reads.specs.Waiting.{Index, waiting_for, waiting_among, Waits, ChangesOnly, HasAlso, WaitsAlso, AreNew, all_but_last, AreDistinct}

-- lists without their last element

pub none_of_short : {X : Type 0} (xs : List X) → (1 < length xs → ⊥) → all_but_last xs ≡ []
none_of_short [] few = refl
none_of_short (x ∷ []) few = refl
none_of_short (x ∷ y ∷ xs) few = absurd (few (omega arith))

pub some_of_long : {X : Type 0} (xs : List X) → 1 < length xs → all_but_last xs ≢ []
some_of_long xs many e = let long = length-take-le (length xs - 1) xs (omega arith) in omega (arith, many, long, ap length e)

all_but_pushed : {X : Type 0} (xs : List X) (x : X) → all_but_last (xs ++ x ∷ []) ≡ xs
all_but_pushed xs x =
    let long : length (xs ++ x ∷ []) - 1 ≡ length xs = omega (arith, length_push xs x) in
    ap (λ n. take n (xs ++ x ∷ [])) long ∙ take-append_seam xs (x ∷ [])

-- what holds of each pair of a list holds of each pair of a front
pub distinct_front : (front back : List (TxnId × ℕ)) → AreDistinct (front ++ back) → AreDistinct front
distinct_front front back distinct = λ i j d below within same.
    let all : j < length (front ++ back) = omega (arith, within, length-append front back) in
    distinct i j d below all (get_or_append_left front back d i (omega (arith, below, within)) ∙ same ∙ sym (get_or_append_left front back d j within))

-- elements, by cases on the list

-- what is found past the end of a list of reads
abbrev pub no_read : PendingRead
no_read = record { reader = record { session = 0; number = 0 }; key = 0; writer = record { session = 0; number = 0 } }

-- the reads of a list that wait for one transaction

abbrev read_of : TxnId → ℕ → TxnId → PendingRead
read_of reader key writer = record { reader = reader; key = key; writer = writer }

abbrev among_one : PendingRead → TxnId → List (TxnId × ℕ)
among_one read writer = cond (same_id read.writer writer) ((read.reader, read.key) ∷ []) []

among_pushed : (reads : List PendingRead) (read : PendingRead) (writer : TxnId) → waiting_among (reads ++ read ∷ []) writer ≡ waiting_among reads writer ++ among_one read writer
among_pushed [] read writer = refl
among_pushed (first ∷ reads) read writer =
    elim (same_id first.writer writer) as (λ t. cond t ((first.reader, first.key) ∷ waiting_among (reads ++ read ∷ []) writer) (waiting_among (reads ++ read ∷ []) writer) ≡ cond t ((first.reader, first.key) ∷ waiting_among reads writer) (waiting_among reads writer) ++ among_one read writer) [
      | true ↦ ap (λ more. (first.reader, first.key) ∷ more) (among_pushed reads read writer)
      | false ↦ among_pushed reads read writer
    ]

in_among : (reads : List PendingRead) (reader writer : TxnId) (key : ℕ) → In (waiting_among reads writer) (reader, key) → In reads (read_of reader key writer)
in_among [] reader writer key h = h
in_among (read ∷ reads) reader writer key h = by_writer (same_id read.writer writer) refl h (in_among reads reader writer key)
  where
    same_read : same_id read.writer writer ≡ true → ◌≡◌ {A = TxnId × ℕ} (read.reader, read.key) (reader, key) → read ≡ read_of reader key writer
    same_read same e =
        let w : read.writer ≡ writer = same_id_is read.writer writer same in
        λ i. record { reader = (e i).0; key = (e i).1; writer = w i }

    by_writer : (t : Bool) → same_id read.writer writer ≡ t → In (cond t ((read.reader, read.key) ∷ waiting_among reads writer) (waiting_among reads writer)) (reader, key) → (In (waiting_among reads writer) (reader, key) → In reads (read_of reader key writer)) → In (read ∷ reads) (read_of reader key writer)
    by_writer true same (inl e) rest = inl (same_read same e)
    by_writer true same (inr h) rest = inr (rest h)
    by_writer false same h rest = inr (rest h)

among_in : (reads : List PendingRead) (reader writer : TxnId) (key : ℕ) → In reads (read_of reader key writer) → In (waiting_among reads writer) (reader, key)
among_in [] reader writer key h = h
among_in (read ∷ reads) reader writer key h = by_writer (same_id read.writer writer) refl h (among_in reads reader writer key)
  where
    by_writer : (t : Bool) → same_id read.writer writer ≡ t → In (read ∷ reads) (read_of reader key writer) → (In reads (read_of reader key writer) → In (waiting_among reads writer) (reader, key)) → In (cond t ((read.reader, read.key) ∷ waiting_among reads writer) (waiting_among reads writer)) (reader, key)
    by_writer true same (inl e) rest = inl (λ i. ((e i).reader, (e i).key))
    by_writer true same (inr h) rest = inr (rest h)
    by_writer false same (inl e) rest = absurd (false≢true (sym same ∙ ap (λ (r : PendingRead). same_id r.writer writer) e ∙ same_id_itself writer))
    by_writer false same (inr h) rest = rest h

-- reads that are there also wait, and those that waited

pub waits_also : (old new : Index) (reads : List PendingRead) → HasAlso old new reads → WaitsAlso old new reads
waits_also old new reads also = λ reader writer key. (
  λ waits. by_part reader writer key (in_either (waiting_for old writer) (waiting_among reads writer) (reader, key) (in_from_contains (waiting_for old writer ++ waiting_among reads writer) (reader, key) (subst (λ list. Contains list (reader, key)) (also writer) waits))),
  λ either. subst (λ list. Contains list (reader, key)) (sym (also writer)) (contains_from_in (waiting_for old writer ++ waiting_among reads writer) (reader, key) (part reader writer key either)),
)
  where
    by_part : (reader writer : TxnId) (key : ℕ) → In (waiting_for old writer) (reader, key) ⊎ In (waiting_among reads writer) (reader, key) → Waits old reader key writer ⊎ Contains reads (read_of reader key writer)
    by_part reader writer key (inl h) = inl (contains_from_in (waiting_for old writer) (reader, key) h)
    by_part reader writer key (inr h) = inr (contains_from_in reads (read_of reader key writer) (in_among reads reader writer key h))

    part : (reader writer : TxnId) (key : ℕ) → Waits old reader key writer ⊎ Contains reads (read_of reader key writer) → In (waiting_for old writer ++ waiting_among reads writer) (reader, key)
    part reader writer key (inl h) = in_left (waiting_for old writer) (waiting_among reads writer) (reader, key) (in_from_contains (waiting_for old writer) (reader, key) h)
    part reader writer key (inr h) = in_right (waiting_for old writer) (waiting_among reads writer) (reader, key) (among_in reads reader writer key (in_from_contains reads (read_of reader key writer) h))

-- one more read waits

pub also_more : (old mid new : Index) (reads : List PendingRead) (place : ℕ) (read d : PendingRead) → place < length reads → get_or reads place d ≡ read → HasAlso old mid (take place reads) → ChangesOnly mid new read.writer (waiting_for mid read.writer ++ (read.reader, read.key) ∷ []) → HasAlso old new (take (place + 1) reads)
also_more old mid new reads place read d within at also added = λ writer.
    let front = take place reads in
    let more : take (place + 1) reads ≡ front ++ read ∷ [] = take_more reads place d within ∙ ap (λ r. front ++ r ∷ []) at in
    let whole : waiting_for old writer ++ waiting_among (take (place + 1) reads) writer ≡ waiting_for mid writer ++ among_one read writer =
    ap (λ rs. waiting_for old writer ++ waiting_among rs writer) more ∙ ap (λ list. waiting_for old writer ++ list) (among_pushed front read writer)
    ∙ sym (append_assoc (waiting_for old writer) (waiting_among front writer) (among_one read writer)) ∙ ap (λ list. list ++ among_one read writer) (sym (also writer)) in
    by_writer writer (same_id read.writer writer) refl ∙ sym whole
  where
    by_writer : (writer : TxnId) (t : Bool) → same_id read.writer writer ≡ t → waiting_for new writer ≡ waiting_for mid writer ++ cond t ((read.reader, read.key) ∷ []) []
    by_writer writer true same =
        let is : read.writer ≡ writer = same_id_is read.writer writer same in
        subst (λ w. waiting_for new w ≡ waiting_for mid w ++ (read.reader, read.key) ∷ []) is added.changed
    by_writer writer false same =
        let other : writer ≢ read.writer = λ e. false≢true (sym same ∙ ap (λ w. same_id read.writer w) e ∙ same_id_itself read.writer) in
        added.others writer other ∙ sym (append-nil (waiting_for mid writer))

-- the read that was added last is taken back
pub also_less : (old mid new : Index) (reads : List PendingRead) (place : ℕ) (read d : PendingRead) → place < length reads → get_or reads place d ≡ read → HasAlso old mid (take (place + 1) reads) → ChangesOnly mid new read.writer (all_but_last (waiting_for mid read.writer)) → HasAlso old new (take place reads)
also_less old mid new reads place read d within at also taken = λ writer. by_writer writer (same_id read.writer writer) refl (before writer)
  where
    front : List PendingRead
    front = take place reads

    before : (writer : TxnId) → waiting_for mid writer ≡ (waiting_for old writer ++ waiting_among front writer) ++ among_one read writer
    before writer =
        let more : take (place + 1) reads ≡ front ++ read ∷ [] = take_more reads place d within ∙ ap (λ r. front ++ r ∷ []) at in
        also writer ∙ ap (λ rs. waiting_for old writer ++ waiting_among rs writer) more ∙ ap (λ list. waiting_for old writer ++ list) (among_pushed front read writer)
        ∙ sym (append_assoc (waiting_for old writer) (waiting_among front writer) (among_one read writer))

    by_writer : (writer : TxnId) (t : Bool) → same_id read.writer writer ≡ t → waiting_for mid writer ≡ (waiting_for old writer ++ waiting_among front writer) ++ cond t ((read.reader, read.key) ∷ []) [] → waiting_for new writer ≡ waiting_for old writer ++ waiting_among front writer
    by_writer writer true same e =
        let is : read.writer ≡ writer = same_id_is read.writer writer same in
        subst (λ w. waiting_for new w ≡ all_but_last (waiting_for mid w)) is taken.changed
        ∙ ap all_but_last e ∙ all_but_pushed (waiting_for old writer ++ waiting_among front writer) (read.reader, read.key)
    by_writer writer false same e =
        let other : writer ≢ read.writer = λ e. false≢true (sym same ∙ ap (λ w. same_id read.writer w) e ∙ same_id_itself read.writer) in
        taken.others writer other ∙ e ∙ append-nil (waiting_for old writer ++ waiting_among front writer)

get_or_front : (n : ℕ) (xs : List PendingRead) (k : ℕ) (d : PendingRead) → k < n → get_or xs k d ≡ get_or (take n xs) k d
get_or_front zero xs k d low = absurd (omega arith)
get_or_front (suc n) [] k d low = refl
get_or_front (suc n) (x ∷ xs) zero d low = refl
get_or_front (suc n) (x ∷ xs) (suc k) d low = get_or_front n xs k d (omega arith)

-- a new read doesn't wait yet when those in front of it were added
pub not_yet : (old mid : Index) (reads : List PendingRead) (place : ℕ) (read d : PendingRead) → AreNew old reads → place < length reads → get_or reads place d ≡ read → HasAlso old mid (take place reads) → Waits mid read.reader read.key read.writer → ⊥
not_yet old mid reads place read d fresh within at also waits = by_part ((waits_also old mid (take place reads) also read.reader read.writer read.key).0 waits)
  where
    by_part : Waits old read.reader read.key read.writer ⊎ Contains (take place reads) read → ⊥
    by_part (inl waited) =
        let P : PendingRead → Type 0 = λ r. Waits old r.reader r.key r.writer → ⊥ in
        subst P at (All-get_or P reads place d within fresh.new) waited
    by_part (inr (k, low, is)) =
        let short : k < place = omega (arith, low, length-take-le place reads (omega (arith, within))) in
        fresh.once k place read short within (get_or_front place reads k read short ∙ is ∙ sym at ∙ get_or_default reads place d read within)
