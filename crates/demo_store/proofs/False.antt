-- What a fault tells of a key is no source of it: it was executed in front of the last writer of the key.
use Rattle.std.proofs.Common.{◌≡◌, ℕ, ◌+◌, ◌<◌, ◌∙◌, inl, inr, refl, sym, ap, subst, Bool, true, false, List, [], ◌∷◌, ◌++◌, length, length-append, take, drop, get_or, Option, None, Some, append-nil, eq-eqb, arith}
use Rattle.std.specs.Prelude.{All, Any, Contains, if◌then◌else◌, IsNone, MatchOption, is_some, slice_get, slice_index}
use Rattle.std.specs.Option.{ForSome}
use Rattle.std.proofs.Math.Seq.{take-append_seam, get_or-append_seam}
use Rattle.std.proofs.lemmas.Bool.{cases_eq, false≢true}
use Rattle.std.proofs.lemmas.List.{append_assoc, take-append-drop, get_or_default, get_or-map, length-map}
use Rattle.std.proofs.lemmas.List.Elements.{All-contains, All-nil, All-weaker}
use Rattle.std.proofs.lemmas.Option.{get_or_from_slice_get}
use Rattle.txn.specs.declared.transactions.Source.{Source}
use Rattle.txn.specs.declared.transactions.Source.TheVariants.{Init, By}
use Rattle.txn.specs.declared.transactions.TxnId.{TxnId}
use Rattle.txn.specs.History.{writes_key}
use Rattle.txn.specs.declared.transactions.Txn.{Txn}
use Rattle.logged_fragments.specs.Effects.{idle}
use Rattle.demo_store.specs.declared.faults.Lie.{Lie}
use Rattle.demo_store.specs.declared.requests.Request.{Request}
use Rattle.demo_store.specs.declared.requests.Executed.{Executed}
use Rattle.demo_store.specs.declared.requests.Fault.{Fault}
use Rattle.demo_store.specs.declared.requests.Fault.TheVariants as faults
use Rattle.demo_store.specs.declared.requests.Fault.TheVariants.{StaleRead, LostUpdate, SplitRead, SessionBack, DirtyRead}
use Rattle.demo_store.specs.Faults.{HasWritten, IsDirty, IsLie, IsLost, IsStale, IsToldBut}
use Rattle.demo_store.specs.Logs.{of_session, entry_of, AreOfKeys, IsLastPlace, IsSourceIn, Follows, HasNextNumber, HasRun, ReadsRun}
use Rattle.demo_store.proofs.Explaining.{follows_more}
use Rattle.demo_store.proofs.LastPlaces.{of_session-append, of_session-own}
use Rattle.demo_store.proofs.Lies.{none_last, one_last}

-- what holds of each entry of a log holds of each of its front
in_front : (P : List Executed → Executed → Type 0) (before xs ys : List Executed) → Follows P before (xs ++ ys) → Follows P before xs
in_front P before [] ys h = tt
in_front P before (x ∷ xs) ys (p, rest) = (p, in_front P (before ++ x ∷ []) xs ys rest)

-- and of the entry behind the front
behind : (P : List Executed → Executed → Type 0) (before older : List Executed) (e : Executed) (newer : List Executed) → Follows P before (older ++ e ∷ newer) → P (before ++ older) e
behind P before [] e newer (p, rest) = subst (λ l. P l e) (sym (append-nil before)) p
behind P before (x ∷ older) e newer (p, rest) = subst (λ l. P l e) (append_assoc before (x ∷ []) older) (behind P (before ++ x ∷ []) older e newer rest)

-- what ran in a front ran
run_more : (older rest : List Executed) (source : Source) → HasRun older source → HasRun (older ++ rest) source
run_more older rest Init h = tt
run_more older rest (By id) h =
    let long : length (of_session id.session (older ++ rest)) ≡ length (of_session id.session older) + length (of_session id.session rest) =
    ap length (of_session-append id.session older rest) ∙ length-append (of_session id.session older) (of_session id.session rest) in
    omega (arith, long, h)

-- what is in the log ran
run_at : (log older : List Executed) (e : Executed) (newer : List Executed) → Follows HasNextNumber [] log → log ≡ older ++ e ∷ newer → e.id.number < length (of_session e.id.session log)
run_at log older e newer numbered is =
    let s : ℕ = e.id.session in
    let next : e.id.number ≡ length (of_session s older) = behind HasNextNumber [] older e newer (subst (Follows HasNextNumber []) is numbered) in
    let own : of_session s (e ∷ newer) ≡ e.txn ∷ of_session s newer = of_session-own s e newer (eq-eqb s s refl) in
    let long : length (of_session s log) ≡ length (of_session s older) + length (e.txn ∷ of_session s newer) =
    ap (λ l. length (of_session s l)) is ∙ ap length (of_session-append s older (e ∷ newer)) ∙ length-append (of_session s older) (of_session s (e ∷ newer)) ∙ ap (λ l. length (of_session s older) + length l) own in
    omega (arith, next, long)

pub source_run : (log : List Executed) (key : ℕ) (source : Source) → Follows HasNextNumber [] log → IsSourceIn log key source → HasRun log source
source_run log key Init numbered h = tt
source_run log key (By id) numbered (older, newer, e, is, named, wrote, none) = subst (λ (i : TxnId). HasRun log (By i)) named (run_at log older e newer numbered is)

-- what ran in front of the last writer of a key isn't its source
not_source : (log : List Executed) (key place : ℕ) (source : Source) → Follows HasNextNumber [] log → IsLastPlace log key (Some place) → HasRun (take place log) source → ¬ IsSourceIn log key source
not_source log key place Init numbered last run none = none_last log key place none last
not_source log key place (By id) numbered last run (older, newer, e, is, named, wrote, none) =
    let same : place ≡ length older = one_last log key place (length older) last (older, newer, e, is, refl, wrote, none) in
    let front : take place log ≡ older = ap (λ n. take n log) same ∙ ap (take (length older)) is ∙ take-append_seam older (e ∷ newer) in
    let next : e.id.number ≡ length (of_session e.id.session older) = behind HasNextNumber [] older e newer (subst (Follows HasNextNumber []) is numbered) in
    let ran : HasRun older (By e.id) = subst (λ (i : TxnId). HasRun older (By i)) (sym named) (subst (λ l. HasRun l (By id)) front run) in
    omega (arith, next, ran)

-- the source ran, and isn't the one of the key
abbrev pub IsFalse : List Executed → ℕ → Source → Type 0
IsFalse log key source = HasRun log source × ¬ IsSourceIn log key source

in_front_false : (log : List Executed) (key place : ℕ) (source : Source) → Follows HasNextNumber [] log → IsLastPlace log key (Some place) → HasRun (take place log) source → IsFalse log key source
in_front_false log key place source numbered last run =
    (subst (λ l. HasRun l source) (take-append-drop place log) (run_more (take place log) (drop place log) source run), not_source log key place source numbered last run)

stale_false : (log : List Executed) (key : ℕ) (source : Source) → Follows HasNextNumber [] log → IsStale log key source → IsFalse log key source
stale_false log key source numbered stale =
    let place : ℕ = stale.place in
    let front : Follows HasNextNumber [] (take place log) =
    in_front HasNextNumber [] (take place log) (drop place log) (subst (Follows HasNextNumber []) (sym (take-append-drop place log)) numbered) in
    in_front_false log key place source numbered stale.last (source_run (take place log) key source front stale.before)

lost_false : (log : List Executed) (key : ℕ) (source : Source) → Follows HasNextNumber [] log → Follows ReadsRun [] log → IsLost log key source → IsFalse log key source
lost_false log key source numbered ran lost = at lost.place lost.last lost.there
  where
    at : (place : ℕ) → IsLastPlace log key (Some place) → slice_get log place ≡ Some lost.writer → IsFalse log key source
    at place (older, newer, e, is, long, wrote, none) there =
        let found : get_or log place e ≡ lost.writer = get_or_from_slice_get log place lost.writer e there in
        let own : get_or log place e ≡ e = ap (λ l. get_or l place e) is ∙ ap (λ n. get_or (older ++ e ∷ newer) n e) (sym long) ∙ get_or-append_seam older e newer e in
        let front : take place log ≡ older = ap (λ n. take n log) (sym long) ∙ ap (take (length older)) is ∙ take-append_seam older (e ∷ newer) in
        let reads : ReadsRun older e = behind ReadsRun [] older e newer (subst (Follows ReadsRun []) is ran) in
        let of_writer : ReadsRun older lost.writer = subst (ReadsRun older) (sym own ∙ found) reads in
        let run : HasRun older source = All-contains (λ (read : ℕ × Source). HasRun older read.1) lost.writer.txn.reads (key, source) of_writer.0 lost.read in
        in_front_false log key place source numbered (older, newer, e, is, long, wrote, none) (subst (λ l. HasRun l source) (sym front) run)

written_false : (log : List Executed) (session key : ℕ) → HasWritten log session key → IsFalse log key Init
written_false log session key (k, e, within, is, (own, wrote)) = (tt, λ none. false≢true (sym (none k e within) ∙ subst (λ (x : Executed). writes_key (Some x.txn) key ≡ true) (sym is) wrote))

-- one that comes behind another of its session has another id
far : (before mid : List Executed) (e other : Executed) → e.id ≡ other.id → HasNextNumber before e → HasNextNumber (before ++ e ∷ mid) other → ⊥
far before mid e other same next later =
    let s : ℕ = e.id.session in
    let own : of_session s (e ∷ mid) ≡ e.txn ∷ of_session s mid = of_session-own s e mid (eq-eqb s s refl) in
    let long : length (of_session s (before ++ e ∷ mid)) ≡ length (of_session s before) + length (e.txn ∷ of_session s mid) =
    ap length (of_session-append s before (e ∷ mid)) ∙ length-append (of_session s before) (of_session s (e ∷ mid)) ∙ ap (λ l. length (of_session s before) + length l) own in
    let number : e.id.number ≡ length (of_session s (before ++ e ∷ mid)) =
    ap (λ (i : TxnId). i.number) same ∙ later ∙ ap (λ (i : TxnId). length (of_session i.session (before ++ e ∷ mid))) (sym same) in
    omega (arith, next, long, number)

-- no two entries have one id
only : (before older newer front back : List Executed) (e other : Executed) → Follows HasNextNumber before (older ++ e ∷ newer) → older ++ e ∷ newer ≡ front ++ other ∷ back → e.id ≡ other.id → e ≡ other
only before [] newer [] back e other h is same = cc
only before [] newer (x ∷ front) back e other h is same =
    let first : e ≡ x = cc in
    let rest : newer ≡ front ++ other ∷ back = cc in
    let later : HasNextNumber (before ++ e ∷ front) other = behind HasNextNumber before (e ∷ front) other back (subst (λ l. Follows HasNextNumber before (e ∷ l)) rest h) in
    absurd (far before front e other same h.0 later)
only before (x ∷ older) newer [] back e other h is same =
    let first : x ≡ other = cc in
    let later : HasNextNumber (before ++ x ∷ older) e = behind HasNextNumber before (x ∷ older) e newer h in
    let here : HasNextNumber before other = subst (HasNextNumber before) first h.0 in
    absurd (far before older other e (sym same) here (subst (λ (y : Executed). HasNextNumber (before ++ y ∷ older) e) first later))
only before (x ∷ older) newer (y ∷ front) back e other h is same =
    let rest : older ++ e ∷ newer ≡ front ++ other ∷ back = cc in
    only (before ++ x ∷ []) older newer front back e other h.1 rest same

dirty_false : (log : List Executed) (key : ℕ) (source : Source) → Follows HasNextNumber [] log → Follows ReadsRun [] log → IsDirty log key source → IsFalse log key source
dirty_false log key Init numbered ran dirty = absurd dirty
dirty_false log key (By id) numbered ran (older, newer, e, is, named, lost, after) = (
  subst (λ (i : TxnId). HasRun log (By i)) named (run_at log older e newer numbered is),
  λ (front, back, other, splits, called, wrote, none).
      let one : e ≡ other = only [] older newer front back e other (subst (Follows HasNextNumber []) is numbered) (sym is ∙ splits) (named ∙ sym called) in
      let nothing : e.txn ≡ idle = (behind ReadsRun [] older e newer (subst (Follows ReadsRun []) is ran)).1 key lost in
      let here : other.txn ≡ idle = ap (λ (x : Executed). x.txn) (sym one) ∙ nothing in
      false≢true (ap (λ (t : Txn). writes_key (Some t) key) (sym here) ∙ wrote),
)

-- what a fault tells of a key ran, and isn't its source
pub lie_false : (fault : Fault) (log : List Executed) (request : Request) (key : ℕ) (source : Source) → Follows HasNextNumber [] log → Follows ReadsRun [] log → IsLie fault log request key source → IsFalse log key source
lie_false faults.None log request key source numbered ran h = absurd h
lie_false StaleRead log request key source numbered ran (first, stale) = stale_false log key source numbered stale
lie_false LostUpdate log request key source numbered ran (first, lost) = lost_false log key source numbered ran lost
lie_false SplitRead log request key source numbered ran (lower, any, first, init) =
    subst (IsFalse log key) (sym init) (in_front_false log key first.holds.place Init numbered first.holds.also tt)
lie_false SessionBack log request key source numbered ran (first, init) = subst (IsFalse log key) (sym init) (written_false log request.session key first.holds)
lie_false DirtyRead log request key source numbered ran (first, dirty) = dirty_false log key source numbered ran dirty

-- the key that a fault lies about is read
lie_read : (fault : Fault) (log : List Executed) (request : Request) (key : ℕ) (source : Source) → IsLie fault log request key source → (place : ℕ) × (place < length request.reads) × (slice_index request.reads place ≡ key)
lie_read faults.None log request key source h = absurd h
lie_read StaleRead log request key source (first, stale) = (first.place, first.within, first.there)
lie_read LostUpdate log request key source (first, lost) = (first.place, first.within, first.there)
lie_read SplitRead log request key source (lower, any, first, init) = (first.place, first.within, first.there)
lie_read SessionBack log request key source (first, init) = (first.place, first.within, first.there)
lie_read DirtyRead log request key source (first, dirty) = (first.place, first.within, first.there)

-- where a fault lies, some read is told another source than its own
told_false : (fault : Fault) (log : List Executed) (request : Request) (key : ℕ) (source : Source) (reads : List (ℕ × Source))
    → Follows HasNextNumber [] log → Follows ReadsRun [] log → IsLie fault log request key source → AreOfKeys request.reads reads → All (IsToldBut log key source) reads → Any (λ read. ¬ IsSourceIn log read.0 read.1) reads
told_false fault log request key source reads numbered ran lie keys told = at (lie_read fault log request key source lie)
  where
    at : (place : ℕ) × (place < length request.reads) × (slice_index request.reads place ≡ key) → Any (λ read. ¬ IsSourceIn log read.0 read.1) reads
    at (place, inside, there) =
        let read : ℕ × Source = get_or reads place (key, source) in
        let long : length reads ≡ length request.reads = sym (length-map reads (λ (r : ℕ × Source). r.0)) ∙ ap length keys in
        let within : place < length reads = omega (arith, long, inside) in
        let named : read.0 ≡ key = sym (get_or-map (λ (r : ℕ × Source). r.0) reads place (key, source) 0 within) ∙ ap (λ l. get_or l place 0) keys ∙ there in
        let answer : read.1 ≡ source = (told place (key, source) within).lie named in (
          place,
          read,
          within,
          get_or_default reads place read (key, source) within,
          λ is. (lie_false fault log request key source numbered ran lie).1 (subst (λ k. IsSourceIn log k source) named (subst (IsSourceIn log read.0) answer is)),
        )

-- and each read is told what ran
lie_runs : (fault : Fault) (log : List Executed) (request : Request) (key : ℕ) (source : Source) (reads : List (ℕ × Source))
    → Follows HasNextNumber [] log → Follows ReadsRun [] log → IsLie fault log request key source → All (IsToldBut log key source) reads → All (λ read. HasRun log read.1) reads
lie_runs fault log request key source reads numbered ran lie told = λ k d within. at (get_or reads k d) (told k d within)
  where
    at : (read : ℕ × Source) → IsToldBut log key source read → HasRun log read.1
    at read told =
        elim (cases_eq read.0 key) [
          | inl same ↦ subst (HasRun log) (sym (told.lie same)) (lie_false fault log request key source numbered ran lie).0
          | inr other ↦ source_run log read.0 read.1 numbered (told.other other)
        ]

-- the same of what may be a lie, over what was read of the log

pub some_false : (fault : Fault) (log seen slice : List Executed) (request : Request) (lie : Option Lie) (none : Type 0) (reads : List (ℕ × Source))
    → slice ≡ log → Follows HasNextNumber [] log → Follows ReadsRun [] log → seen ≡ log → MatchOption lie none (λ l. IsLie fault seen request l.key l.source)
    → AreOfKeys request.reads reads → ForSome lie (λ l. All (IsToldBut slice l.key l.source) reads) → is_some lie ≡ true → Any (λ read. ¬ IsSourceIn log read.0 read.1) reads
some_false fault log seen slice request None none reads same numbered ran view is keys lies some = absurd (false≢true some)
some_false fault log seen slice request (Some l) none reads same numbered ran view is keys lies some =
    told_false fault log request l.key l.source reads numbered ran (subst (λ s. IsLie fault s request l.key l.source) view is) keys (subst (λ s. All (IsToldBut s l.key l.source) reads) same (lies l refl))

reads_run : (fault : Fault) (log seen slice : List Executed) (request : Request) (lie : Option Lie) (none : Type 0) (reads : List (ℕ × Source))
    → slice ≡ log → Follows HasNextNumber [] log → Follows ReadsRun [] log → seen ≡ log → MatchOption lie none (λ l. IsLie fault seen request l.key l.source)
    → (IsNone lie → All (λ read. IsSourceIn slice read.0 read.1) reads) → ForSome lie (λ l. All (IsToldBut slice l.key l.source) reads) → All (λ read. HasRun log read.1) reads
reads_run fault log seen slice request None none reads same numbered ran view is sources lies =
    All-weaker (λ (read : ℕ × Source). IsSourceIn slice read.0 read.1) (λ read. HasRun log read.1) (λ read source. source_run log read.0 read.1 numbered (subst (λ s. IsSourceIn s read.0 read.1) same source)) reads (sources refl)
reads_run fault log seen slice request (Some l) none reads same numbered ran view is sources lies =
    lie_runs fault log request l.key l.source reads numbered ran (subst (λ s. IsLie fault s request l.key l.source) view is) (subst (λ s. All (IsToldBut s l.key l.source) reads) same (lies l refl))

-- what goes to the log read what had run
entry_runs : (log : List Executed) (request : Request) (txn : Txn) → All (λ (read : ℕ × Source). HasRun log read.1) txn.reads → ReadsRun log (entry_of request log txn)
entry_runs log request txn run = at request.abort
  where
    at : (abort : Bool) → All (λ (read : ℕ × Source). HasRun log read.1) (if abort then idle else txn).reads × ((key : ℕ) → Contains (if abort then request.writes else []) key → (if abort then idle else txn) ≡ idle)
    at true = (All-nil (λ (read : ℕ × Source). HasRun log read.1), λ key lost. refl)
    at false = (run, λ key (k, within, is). absurd (omega (arith, within)))

pub runs_more : (fault : Fault) (old seen slice new : List Executed) (e : Executed) (txn : Txn) (request : Request) (lie : Option Lie) (none : Type 0)
    → new ≡ old ++ e ∷ [] → slice ≡ old → e ≡ entry_of request slice txn → Follows HasNextNumber [] old → Follows ReadsRun [] old → seen ≡ old → MatchOption lie none (λ l. IsLie fault seen request l.key l.source)
    → (IsNone lie → All (λ read. IsSourceIn slice read.0 read.1) txn.reads) → ForSome lie (λ l. All (IsToldBut slice l.key l.source) txn.reads) → Follows ReadsRun [] new
runs_more fault old seen slice new e txn request lie none grown same own numbered ran view is sources lies =
    let runs : ReadsRun old (entry_of request old txn) = entry_runs old request txn (reads_run fault old seen slice request lie none txn.reads same numbered ran view is sources lies) in
    let entry : e ≡ entry_of request old txn = own ∙ ap (λ l. entry_of request l txn) same in
    subst (Follows ReadsRun []) (sym grown) (follows_more ReadsRun [] old e ran (subst (ReadsRun old) (sym entry) runs))
