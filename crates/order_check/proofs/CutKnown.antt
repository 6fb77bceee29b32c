-- What a cut leaves is known to be as it was, where nothing of it is known to come before what goes.
use Rattle.std.proofs.Common.{◌≡◌, ◌≢◌, ◌↔◌, ℕ, ◌+◌, ◌<◌, ◌≤◌, ◌⊎◌, Bool, true, false, List, [], length, Some, refl, sym, subst, ◌∙◌, inl, inr, arith, ap, IsSome, nat_cmp}
use Rattle.std.specs.Prelude.{Contains, IsSomeAnd, drop, slice_index}
use Rattle.std.specs.FinMap.{FinMap, get}
use Rattle.std.proofs.lemmas.Bool.{false≢true, cases_lt}
use Rattle.txn.specs.declared.transactions.TxnId.{TxnId}
use Rattle.txn.specs.declared.transactions.Source.{Source}
use Rattle.txn.specs.declared.transactions.Source.TheVariants.{Init, By}
use Rattle.txn.specs.declared.choices.Choice.{Choice}
use Rattle.txn.specs.Transactions.{same_id}
use Rattle.txn.specs.History.{session_of, writes_key}
use Rattle.txn.proofs.Ids.{same_id_is, same_id_itself}
use Rattle.order_check.specs.declared.remainder.Parts.{Parts}
use Rattle.order_check.specs.Based.{IsGone, mark_of, remaining_at, Remains, last_gone}
use Rattle.order_check.specs.Known.{Known, IsChoice, ReadsKey, WritesKey, IsBaseSource, by_session, by_read, by_base, by_taken, through, forces_after, forces_before}
use Rattle.order_check.specs.CutLaws.{LeadsNotBack, IsFromGone}
use Rattle.order_check.specs.Cuts.{IsFront, IsSettledBehind, IsCutBehind, IsContentCutOff}
use Rattle.order_check.specs.Settled.{IsCutAt, IsCutOf, InFront, NoSession, count_in, or_else}
use Rattle.order_check.proofs.CutAhead.{last_of_key, rest_behind}
use Rattle.order_check.proofs.CutCounts.{cut_looks, fronts_remain, known_remain}
use Rattle.order_check.proofs.CutReads.{CutLooks, LastOf, silent, written}
use Rattle.order_check.proofs.Fenced.{known_whole, remains_whole}
use Rattle.order_check.proofs.OrderLaws.{reader_remains, writer_remains}
use Rattle.order_check.proofs.Received.{gone_past}

-- a cut of a front of the parts
record Cut (front whole new : Parts) (fence : TxnId) (gone : List TxnId) (last : FinMap nat_cmp TxnId) : Type 0 where
  is : IsFront front whole
  settled : IsSettledBehind front whole fence
  cut : IsCutAt front fence gone last
  leaves : IsCutOf whole new gone last

-- which sessions are closed, and the bounds, don't matter to what is known
known_content : (parts : Parts) (closed : List Bool) (most limit : ℕ) (a b : TxnId) → Known parts [] a b → Known (record parts { closed = closed; most_sessions = most; limit = limit }) [] a b
known_content parts closed most limit a b (by_session ra rb same below) = by_session ra rb same below
known_content parts closed most limit a b (by_read key reads writes) = by_read key reads writes
known_content parts closed most limit a b (by_base key (source, reads, base) writes apart) = by_base key (source, reads, by_source source base) writes apart
  where
    by_source : (source : Source) → IsBaseSource parts key source → IsBaseSource (record parts { closed = closed; most_sessions = most; limit = limit }) key source
    by_source Init h = h
    by_source (By writer) h = h
known_content parts closed most limit a b (by_taken (k, within, at)) = absurd (omega arith)
known_content parts closed most limit a b (through {b = m} first second) = through (known_content parts closed most limit a m first) (known_content parts closed most limit m b second)
known_content parts closed most limit a b (forces_after choice is known) = forces_after choice (choice_content choice is) (known_content parts closed most limit choice.writer choice.other known)
  where
    choice_content : (choice : Choice) → IsChoice parts choice → IsChoice (record parts { closed = closed; most_sessions = most; limit = limit }) choice
    choice_content choice is = record { reads = is.reads; written = is.written; other = is.other; not_writer = is.not_writer; not_reader = is.not_reader }
known_content parts closed most limit a b (forces_before choice is known) = forces_before choice (choice_content choice is) (known_content parts closed most limit choice.other choice.reader known)
  where
    choice_content : (choice : Choice) → IsChoice parts choice → IsChoice (record parts { closed = closed; most_sessions = most; limit = limit }) choice
    choice_content choice is = record { reads = is.reads; written = is.written; other = is.other; not_writer = is.not_writer; not_reader = is.not_reader }

-- the new parts, closed as the old ones are
abbrev closed_as : Parts → Parts → Parts
closed_as new old = record new { closed = old.closed; most_sessions = old.most_sessions; limit = old.limit }

-- a cut of parts with this content is one of these
cut_of_content : (old new : Parts) (gone : List TxnId) (c : IsContentCutOff old gone new) → Cut c.cut_off.front old (closed_as new old) c.cut_off.behind.fence gone c.cut_off.last
cut_of_content old new gone c = record {
  is = record {
    last = behind.is_front.last ∙ ap (λ base. base.last) c.same_before.base;
    marks = λ s. behind.is_front.marks s ∙ ap (λ base. slice_index base.marks s) c.same_before.base;
    sessions = omega (arith, behind.is_front.sessions, ap length c.same_before.remain);
    remain = λ s. let later = behind.is_front.remain s in (later.0, sym (ap (λ remain. session_of remain s) c.same_before.remain) ∙ later.1);
  };
  settled = record {
    settled = behind.settled.settled;
    behind = λ id remains out. subst (λ (parts : Parts). Known parts [] fence id) same (known_content c.before old.closed old.most_sessions old.limit fence id (behind.settled.behind id (subst (λ (parts : Parts). Remains parts id) (sym same) remains) out));
  };
  cut = behind.cut;
  leaves = record {
    sessions = sym (ap length c.same_after.remain) ∙ behind.leaves.sessions ∙ ap length c.same_before.remain;
    remain = λ s. sym (ap (λ remain. session_of remain s) c.same_after.remain) ∙ behind.leaves.remain s ∙ ap (λ remain. drop (count_in gone s) (session_of remain s)) c.same_before.remain;
    marks_length = sym (ap (λ base. length base.marks) c.same_after.base) ∙ behind.leaves.marks_length ∙ ap (λ base. length base.marks) c.same_before.base;
    marks = λ s. sym (ap (λ base. slice_index base.marks s) c.same_after.base) ∙ behind.leaves.marks s ∙ ap (λ base. slice_index base.marks s + count_in gone s) c.same_before.base;
    writers = λ key. sym (ap (λ base. get base.last key) c.same_after.base) ∙ behind.leaves.writers key ∙ ap (λ base. or_else (get c.cut_off.last key) (get base.last key)) c.same_before.base;
    closed = refl;
    most_sessions = refl;
    limit = refl;
  };
}
  where
    front : Parts
    front = c.cut_off.front

    behind : IsCutBehind c.cut_off.front c.before gone c.cut_off.last c.after
    behind = c.cut_off.behind

    fence : TxnId
    fence = c.cut_off.behind.fence

    same : record c.before { closed = old.closed; most_sessions = old.most_sessions; limit = old.limit } ≡ old
    same = λ i. record { base = c.same_before.base i; remain = c.same_before.remain i; closed = old.closed; most_sessions = old.most_sessions; limit = old.limit }

looks_of : (front whole new : Parts) (fence : TxnId) (gone : List TxnId) (last : FinMap nat_cmp TxnId) → Cut front whole new fence gone last → CutLooks whole new gone
looks_of front whole new fence gone last c = cut_looks front whole new fence gone last NoSession c.is c.settled.settled c.cut c.leaves

-- what remained goes or stays
goes_or_stays : (whole new : Parts) (gone : List TxnId) (id : TxnId) → CutLooks whole new gone → Remains whole id → Contains gone id ⊎ (¬ Contains gone id)
goes_or_stays whole new gone id looks remains = by_mark (cases_lt id.number (mark_of new id.session))
  where
    by_kind : IsGone whole id ⊎ Contains gone id → Contains gone id ⊎ (¬ Contains gone id)
    by_kind (inl was) = absurd (gone_past whole id was remains)
    by_kind (inr has) = inl has

    by_mark : (id.number < mark_of new id.session) ⊎ (mark_of new id.session ≤ id.number) → Contains gone id ⊎ (¬ Contains gone id)
    by_mark (inl now) = by_kind (looks.new_gone id now)
    by_mark (inr over) = inr (λ has. let now = looks.gone_new id has in omega arith)

-- what stays remains, with its reads and writes
stays : (whole new : Parts) (gone : List TxnId) (id : TxnId) → CutLooks whole new gone → Remains whole id → (¬ Contains gone id) → Remains new id
stays whole new gone id looks remains out = subst (λ o. IsSome o) (sym (looks.same id remains out)) remains

reads_new : (whole new : Parts) (gone : List TxnId) (id : TxnId) (key : ℕ) (source : Source) → CutLooks whole new gone → (¬ Contains gone id) → ReadsKey whole id key source → ReadsKey new id key source
reads_new whole new gone id key source looks out reads = subst (λ o. IsSomeAnd o (λ txn. Contains txn.reads (key, source))) (sym (looks.same id (reader_remains whole id key source reads) out)) reads

writes_new : (whole new : Parts) (gone : List TxnId) (id : TxnId) (key : ℕ) → CutLooks whole new gone → (¬ Contains gone id) → WritesKey whole id key → WritesKey new id key
writes_new whole new gone id key looks out writes = subst (λ o. writes_key o key ≡ true) (sym (looks.same id (writer_remains whole id key writes) out)) writes

reads_old : (whole new : Parts) (gone : List TxnId) (id : TxnId) (key : ℕ) (source : Source) → CutLooks whole new gone → ReadsKey new id key source → (¬ Contains gone id) × ReadsKey whole id key source
reads_old whole new gone id key source looks reads =
    let r = looks.new_remains id (reader_remains new id key source reads) in
    (r.1, subst (λ o. IsSomeAnd o (λ txn. Contains txn.reads (key, source))) (looks.same id r.0 r.1) reads)

writes_old : (whole new : Parts) (gone : List TxnId) (id : TxnId) (key : ℕ) → CutLooks whole new gone → WritesKey new id key → (¬ Contains gone id) × WritesKey whole id key
writes_old whole new gone id key looks writes =
    let r = looks.new_remains id (writer_remains new id key writes) in
    (r.1, subst (λ o. writes_key o key ≡ true) (looks.same id r.0 r.1) writes)

-- what goes is known to come before what stays
goes_first : (front whole new : Parts) (fence : TxnId) (gone : List TxnId) (last : FinMap nat_cmp TxnId) (id other : TxnId) → Cut front whole new fence gone last → Contains gone id → Remains whole other → (¬ Contains gone other) → Known whole [] id other
goes_first front whole new fence gone last id other c has remains out = by_front ((c.cut.front id).0 has)
  where
    behind : Known whole [] fence other
    behind = rest_behind front whole fence gone last c.is c.settled c.cut other remains out

    by_front : InFront front fence id → Known whole [] id other
    by_front (inl same) = subst (λ x. Known whole [] x other) (sym same) behind
    by_front (inr before) = through (known_whole front whole c.is id fence before) behind

-- the base keeps a read's source, or takes it over from what goes
base_kept : (front whole new : Parts) (fence : TxnId) (gone : List TxnId) (last : FinMap nat_cmp TxnId) (reader : TxnId) (key : ℕ) (source : Source) → Cut front whole new fence gone last → LeadsNotBack whole gone → (¬ Contains gone reader) → ReadsKey whole reader key source → IsBaseSource whole key source → IsBaseSource new key source
base_kept front whole new fence gone last reader key source c back out reads base = by_key (last_of_key front whole fence gone last NoSession c.is c.settled.settled c.cut key)
  where
    by_source : (source : Source) → last_gone new key ≡ last_gone whole key → IsBaseSource whole key source → IsBaseSource new key source
    by_source Init same h = same ∙ h
    by_source (By writer) same h = same ∙ h

    by_key : LastOf front whole gone last key → IsBaseSource new key source
    by_key (silent none quiet) = by_source source (c.leaves.writers key ∙ ap (λ found. or_else found (last_gone whole key)) none) base
    by_key (written writer is has writes before) = absurd (back reader writer out has (by_base key (source, reads, base) writes (λ same. out (subst (λ x. Contains gone x) same has))))

base_moved : (front whole new : Parts) (fence : TxnId) (gone : List TxnId) (last : FinMap nat_cmp TxnId) (reader writer : TxnId) (key : ℕ) → Cut front whole new fence gone last → LeadsNotBack whole gone → (¬ Contains gone reader) → ReadsKey whole reader key (By writer) → Contains gone writer → WritesKey whole writer key → last_gone new key ≡ Some writer
base_moved front whole new fence gone last reader writer key c back out reads has writes = by_key (last_of_key front whole fence gone last NoSession c.is c.settled.settled c.cut key)
  where
    by_key : LastOf front whole gone last key → last_gone new key ≡ Some writer
    by_key (silent none quiet) = absurd (quiet writer has writes)
    by_key (written other is has_other writes_other before) = by_test (same_id writer other) refl
      where
        by_test : (t : Bool) → same_id writer other ≡ t → last_gone new key ≡ Some writer
        by_test true same = c.leaves.writers key ∙ ap (λ found. or_else found (last_gone whole key)) is ∙ ap Some (sym (same_id_is writer other same))
        by_test false apart =
            let not_same : writer ≢ other = λ same. false≢true (sym apart ∙ subst (λ x. same_id writer x ≡ true) same (same_id_itself writer)) in
            let choice : Choice = record { reader = reader; key = key; writer = writer; other = other } in
            let is_choice : IsChoice whole choice = record { reads = reads; written = writes; other = writes_other; not_writer = λ same. not_same (sym same); not_reader = λ same. out (subst (λ x. Contains gone x) same has_other) } in
            absurd (back reader other out has_other (forces_after choice is_choice (known_whole front whole c.is writer other (before writer has writes not_same))))

-- and it has no others
base_old : (front whole new : Parts) (fence : TxnId) (gone : List TxnId) (last : FinMap nat_cmp TxnId) (key : ℕ) (source : Source) → Cut front whole new fence gone last → IsBaseSource new key source → IsBaseSource whole key source ⊎ IsFromGone whole gone key source
base_old front whole new fence gone last key source c base = by_key (last_of_key front whole fence gone last NoSession c.is c.settled.settled c.cut key)
  where
    by_same : (source : Source) → last_gone new key ≡ last_gone whole key → IsBaseSource new key source → IsBaseSource whole key source
    by_same Init same h = sym same ∙ h
    by_same (By writer) same h = sym same ∙ h

    by_writer : (source : Source) (writer : TxnId) → last_gone new key ≡ Some writer → IsBaseSource new key source → source ≡ By writer
    by_writer Init writer now h = absurd cc
    by_writer (By other) writer now h = let same : other ≡ writer = cc in ap By same

    by_key : LastOf front whole gone last key → IsBaseSource whole key source ⊎ IsFromGone whole gone key source
    by_key (silent none quiet) = inl (by_same source (c.leaves.writers key ∙ ap (λ found. or_else found (last_gone whole key)) none) base)
    by_key (written writer is has writes before) = inr (writer, by_writer source writer (c.leaves.writers key ∙ ap (λ found. or_else found (last_gone whole key)) is) base, has, writes)

-- what was known of what stays still is
known_stays : (front whole new : Parts) (fence : TxnId) (gone : List TxnId) (last : FinMap nat_cmp TxnId) (a b : TxnId) → Cut front whole new fence gone last → LeadsNotBack whole gone → Known whole [] a b → (¬ Contains gone a) → Known new [] a b
known_stays front whole new fence gone last a b c back (by_session ra rb same below) out =
    let looks = looks_of front whole new fence gone last c in
    by_session (stays whole new gone a looks ra out) (stays whole new gone b looks rb (λ has. back a b out has (by_session ra rb same below))) same below
known_stays front whole new fence gone last a b c back (by_read key reads writes) out =
    let looks = looks_of front whole new fence gone last c in
    by_read key (reads_new whole new gone b key (By a) looks (λ has. back a b out has (by_read key reads writes)) reads) (writes_new whole new gone a key looks out writes)
known_stays front whole new fence gone last a b c back (by_base key (source, reads, base) writes apart) out =
    let looks = looks_of front whole new fence gone last c in
    by_base key (source, reads_new whole new gone a key source looks out reads, base_kept front whole new fence gone last a key source c back out reads base) (writes_new whole new gone b key looks (λ has. back a b out has (by_base key (source, reads, base) writes apart)) writes) apart
known_stays front whole new fence gone last a b c back (by_taken (k, within, at)) out = absurd (omega arith)
known_stays front whole new fence gone last a b c back (through {b = m} first second) out = through (known_stays front whole new fence gone last a m c back first out) (known_stays front whole new fence gone last m b c back second (λ has. back a m out has first))
known_stays front whole new fence gone last a b c back (forces_after choice is known) out =
    by_writer (goes_or_stays whole new gone choice.writer looks (writer_remains whole choice.writer choice.key is.written)) (known_stays front whole new fence gone last choice.writer choice.other c back known)
  where
    looks : CutLooks whole new gone
    looks = looks_of front whole new fence gone last c

    other_out : ¬ Contains gone choice.other
    other_out has = back choice.reader choice.other out has (forces_after choice is known)

    reads : ReadsKey new choice.reader choice.key (By choice.writer)
    reads = reads_new whole new gone choice.reader choice.key (By choice.writer) looks out is.reads

    other : WritesKey new choice.other choice.key
    other = writes_new whole new gone choice.other choice.key looks other_out is.other

    by_writer : Contains gone choice.writer ⊎ (¬ Contains gone choice.writer) → ((¬ Contains gone choice.writer) → Known new [] choice.writer choice.other) → Known new [] choice.reader choice.other
    by_writer (inl has) still = by_base choice.key (By choice.writer, reads, base_moved front whole new fence gone last choice.reader choice.writer choice.key c back out is.reads has is.written) other is.not_reader
    by_writer (inr stays) still = forces_after choice (record { reads = reads; written = writes_new whole new gone choice.writer choice.key looks stays is.written; other = other; not_writer = is.not_writer; not_reader = is.not_reader }) (still stays)
known_stays front whole new fence gone last a b c back (forces_before choice is known) out =
    let looks = looks_of front whole new fence gone last c in
    let writer_out : ¬ Contains gone choice.writer = λ has. back choice.other choice.writer out has (forces_before choice is known) in
    let reader_out : ¬ Contains gone choice.reader = λ has. back choice.other choice.reader out has known in
    forces_before choice (record {
      reads = reads_new whole new gone choice.reader choice.key (By choice.writer) looks reader_out is.reads;
      written = writes_new whole new gone choice.writer choice.key looks writer_out is.written;
      other = writes_new whole new gone choice.other choice.key looks out is.other;
      not_writer = is.not_writer;
      not_reader = is.not_reader;
    }) (known_stays front whole new fence gone last choice.other choice.reader c back known out)

-- a choice after the cut was one
choice_old : (whole new : Parts) (gone : List TxnId) (choice : Choice) → CutLooks whole new gone → IsChoice new choice → IsChoice whole choice
choice_old whole new gone choice looks is = record {
  reads = (reads_old whole new gone choice.reader choice.key (By choice.writer) looks is.reads).1;
  written = (writes_old whole new gone choice.writer choice.key looks is.written).1;
  other = (writes_old whole new gone choice.other choice.key looks is.other).1;
  not_writer = is.not_writer;
  not_reader = is.not_reader;
}

-- what is known was known
known_was : (front whole new : Parts) (fence : TxnId) (gone : List TxnId) (last : FinMap nat_cmp TxnId) (a b : TxnId) → Cut front whole new fence gone last → Known new [] a b → Known whole [] a b
known_was front whole new fence gone last a b c (by_session ra rb same below) =
    let looks = looks_of front whole new fence gone last c in
    by_session (looks.new_remains a ra).0 (looks.new_remains b rb).0 same below
known_was front whole new fence gone last a b c (by_read key reads writes) =
    let looks = looks_of front whole new fence gone last c in
    by_read key (reads_old whole new gone b key (By a) looks reads).1 (writes_old whole new gone a key looks writes).1
known_was front whole new fence gone last a b c (by_base key (source, reads, base) writes apart) = by_part (base_old front whole new fence gone last key source c base)
  where
    looks : CutLooks whole new gone
    looks = looks_of front whole new fence gone last c

    read : (¬ Contains gone a) × ReadsKey whole a key source
    read = reads_old whole new gone a key source looks reads

    write : (¬ Contains gone b) × WritesKey whole b key
    write = writes_old whole new gone b key looks writes

    by_part : IsBaseSource whole key source ⊎ IsFromGone whole gone key source → Known whole [] a b
    by_part (inl still) = by_base key (source, read.1, still) write.1 apart
    by_part (inr (writer, from, has, wrote)) =
        let choice : Choice = record { reader = a; key = key; writer = writer; other = b } in
        let is : IsChoice whole choice = record { reads = subst (λ s. ReadsKey whole a key s) from read.1; written = wrote; other = write.1; not_writer = λ same. write.0 (subst (λ x. Contains gone x) (sym same) has); not_reader = apart } in
        forces_after choice is (goes_first front whole new fence gone last writer b c has (writer_remains whole b key write.1) write.0)
known_was front whole new fence gone last a b c (by_taken (k, within, at)) = absurd (omega arith)
known_was front whole new fence gone last a b c (through {b = m} first second) = through (known_was front whole new fence gone last a m c first) (known_was front whole new fence gone last m b c second)
known_was front whole new fence gone last a b c (forces_after choice is known) = forces_after choice (choice_old whole new gone choice (looks_of front whole new fence gone last c) is) (known_was front whole new fence gone last choice.writer choice.other c known)
known_was front whole new fence gone last a b c (forces_before choice is known) = forces_before choice (choice_old whole new gone choice (looks_of front whole new fence gone last c) is) (known_was front whole new fence gone last choice.other choice.reader c known)

pub leaves_rest : (old new : Parts) (gone : List TxnId) → IsContentCutOff old gone new → (id : TxnId) → (Contains gone id → Remains old id) × (Remains new id ↔ (Remains old id × (¬ Contains gone id))) × (Remains new id → remaining_at new id ≡ remaining_at old id)
leaves_rest old new gone c id =
    let cut = cut_of_content old new gone c in
    let front = c.cut_off.front in
    let fence = c.cut_off.behind.fence in
    let looks = looks_of front old (closed_as new old) fence gone c.cut_off.last cut in (
      λ has. remains_whole front old cut.is id (fronts_remain front fence id cut.settled.settled.remains ((cut.cut.front id).0 has)),
      (λ here. looks.new_remains id here, λ was. stays old (closed_as new old) gone id looks was.0 was.1),
      λ here. let was = looks.new_remains id here in looks.same id was.0 was.1,
    )

pub moves_base : (old new : Parts) (gone : List TxnId) → IsContentCutOff old gone new → LeadsNotBack old gone → (reader : TxnId) (key : ℕ) (source : Source) → ReadsKey new reader key source → IsBaseSource new key source ↔ (IsBaseSource old key source ⊎ IsFromGone old gone key source)
moves_base old new gone c back reader key source reads = (λ base. base_old front old left fence gone last key source cut (there source base), λ h. by_part source read.1 h)
  where
    front : Parts
    front = c.cut_off.front

    left : Parts
    left = closed_as new old

    fence : TxnId
    fence = c.cut_off.behind.fence

    last : FinMap nat_cmp TxnId
    last = c.cut_off.last

    cut : Cut front old left fence gone last
    cut = cut_of_content old new gone c

    there : (source : Source) → IsBaseSource new key source → IsBaseSource left key source
    there Init h = h
    there (By writer) h = h

    here : (source : Source) → IsBaseSource left key source → IsBaseSource new key source
    here Init h = h
    here (By writer) h = h

    read : (¬ Contains gone reader) × ReadsKey old reader key source
    read = reads_old old left gone reader key source (looks_of front old left fence gone last cut) reads

    by_part : (source : Source) → ReadsKey old reader key source → IsBaseSource old key source ⊎ IsFromGone old gone key source → IsBaseSource new key source
    by_part source was (inl base) = here source (base_kept front old left fence gone last reader key source cut back read.0 was base)
    by_part source was (inr (writer, from, has, wrote)) = subst (λ s. IsBaseSource new key s) (sym from) (base_moved front old left fence gone last reader writer key cut back read.0 (subst (λ s. ReadsKey old reader key s) from was) has wrote)

pub keeps_known : (old new : Parts) (gone : List TxnId) → IsContentCutOff old gone new → LeadsNotBack old gone → (a b : TxnId) → Known new [] a b ↔ (Known old [] a b × (¬ Contains gone a) × (¬ Contains gone b))
keeps_known old new gone c back a b = (there, λ was. known_content left new.closed new.most_sessions new.limit a b (known_stays front old left fence gone last a b cut back was.0 was.1))
  where
    front : Parts
    front = c.cut_off.front

    left : Parts
    left = closed_as new old

    fence : TxnId
    fence = c.cut_off.behind.fence

    last : FinMap nat_cmp TxnId
    last = c.cut_off.last

    cut : Cut front old left fence gone last
    cut = cut_of_content old new gone c

    looks : CutLooks old left gone
    looks = looks_of front old left fence gone last cut

    there : Known new [] a b → Known old [] a b × (¬ Contains gone a) × (¬ Contains gone b)
    there known =
        let is = known_content new old.closed old.most_sessions old.limit a b known in
        let ends = known_remain left a b is in
        (known_was front old left fence gone last a b cut is, (looks.new_remains a ends.0).1, (looks.new_remains b ends.1).1)
