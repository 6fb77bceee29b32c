-- Parts that make ready for a session that joins, or comes back.
use Rattle.std.proofs.Common.{◌≡◌, ◌⊎◌, ℕ, zero, suc, ◌+◌, ◌-◌, ◌<◌, ◌≤◌, ◌∷◌, ◌++◌, take, Bool, true, false, cond, nat_lt, List, [], length, Option, Some, None, refl, sym, ap, ◌∙◌, subst, inl, inr, arith, get_or, length-set}
use Rattle.std.specs.Prelude.{slice_get, slice_set, Contains, IsSomeAnd, sum_by}
use Rattle.std.proofs.lemmas.Bool.{cases_lt}
use Rattle.std.proofs.lemmas.List.{get_or-take, get_or_past, length-take-le, length_push}
use Rattle.std.proofs.lemmas.List.Sums.{sum_by-append}
use Rattle.txn.specs.declared.transactions.TxnId.{TxnId}
use Rattle.txn.specs.declared.transactions.Txn.{Txn}
use Rattle.txn.specs.declared.transactions.Fragment.{Fragment}
use Rattle.txn.specs.declared.transactions.Source.TheVariants.{By}
use Rattle.txn.specs.Transactions.{IsWellFormed}
use Rattle.txn.specs.History.{History, session_of}
use Rattle.session_marks.specs.declared.marks.SessionMark.{SessionMark}
use Rattle.session_marks.specs.Marks.{fresh, mark_at, with_flag}
use Rattle.pending_reads.specs.Waiting.{Index}
use Rattle.order_check.specs.declared.remainder.Parts.{Parts}
use Rattle.order_check.specs.Based.{mark_of, received_count, remaining_of, remaining_at}
use Rattle.order_check.specs.Good.{IsGood}
use Rattle.order_check.specs.StandsFor.{parts_joined, parts_with}
use Rattle.round_state.specs.Joining.{parts_flagged, parts_more}
use Rattle.round_state.specs.Steps.{IsAdmitted, IsClosedSession, IsLetIn}
use Rattle.round_state.specs.Tracked.{AreMarksOf, IsIndexOf, IsPendingRead, IsTracked}
use Rattle.round_state.proofs.Marked.{marks_flagged}

-- lists with one element more

default_more : {X : Type 0} (xs : List X) (x : X) (n : ℕ) → get_or (xs ++ x ∷ []) n x ≡ get_or xs n x
default_more [] x zero = refl
default_more [] x (suc n) = refl
default_more (y ∷ xs) x zero = refl
default_more (y ∷ xs) x (suc n) = default_more xs x n

set_last : {X : Type 0} (xs : List X) (x y : X) (n : ℕ) → n ≡ length xs → slice_set (xs ++ x ∷ []) n y ≡ xs ++ y ∷ []
set_last [] x y zero e = refl
set_last [] x y (suc n) e = absurd (omega arith)
set_last (z ∷ xs) x y zero e = absurd (omega arith)
set_last (z ∷ xs) x y (suc n) e = ap (λ zs. z ∷ zs) (set_last xs x y n (omega arith))

-- a session more

marks_same : (parts : Parts) (s : ℕ) → mark_of (parts_more parts) s ≡ mark_of parts s
marks_same parts s = default_more parts.base.marks 0 s

remaining_same : (parts : Parts) (s : ℕ) → remaining_of (parts_more parts) s ≡ remaining_of parts s
remaining_same parts s = default_more parts.remain [] s

at_same : (parts : Parts) (id : TxnId) → remaining_at (parts_more parts) id ≡ remaining_at parts id
at_same parts id = λ i. cond (nat_lt id.number (marks_same parts id.session i)) None (slice_get (remaining_same parts id.session i) (id.number - marks_same parts id.session i))

pub good_more : (parts : Parts) → IsGood parts → length parts.remain < parts.most_sessions → IsGood (parts_more parts)
good_more parts good few =
    let size = length_push parts.remain [] in
    record {
      some_sessions = omega (arith, size);
      few_sessions = omega (arith, size, few);
      low_sessions = good.low_sessions;
      marks = length_push parts.base.marks 0 ∙ ap (λ n. n + 1) good.marks ∙ sym size;
      closed = length_push parts.closed false ∙ ap (λ n. n + 1) good.closed ∙ sym size;
      some_limit = good.some_limit;
      low_limit = good.low_limit;
      room = let sum : sum_by length (parts.remain ++ [] ∷ []) ≡ sum_by length parts.remain + 0 = sum_by-append length parts.remain ([] ∷ []) in omega (arith, sum, good.room);
      numbers = λ s. let long = ap length (remaining_same parts s) in omega (arith, marks_same parts s, long, good.numbers s);
      well_formed = λ s n txn h. subst (λ (mark : ℕ). IsWellFormed parts.most_sessions (record { session = s; number = mark + n }) txn) (sym (marks_same parts s)) (good.well_formed s n txn (ap (λ (txns : List Txn). slice_get txns n) (sym (remaining_same parts s)) ∙ h));
      short = λ s n txn h. good.short s n txn (ap (λ (txns : List Txn). slice_get txns n) (sym (remaining_same parts s)) ∙ h);
      base = λ key writer h. let gone = good.base key writer h in omega (arith, gone, marks_same parts writer.session);
    }

marks_more : (marks : List SessionMark) (parts : Parts) → AreMarksOf marks parts → AreMarksOf (marks ++ fresh ∷ []) (parts_more parts)
marks_more marks parts are =
    let same : (s : ℕ) → mark_at (marks ++ fresh ∷ []) s ≡ mark_at marks s = λ s. default_more marks fresh s in
    record {
      sessions = length_push marks fresh ∙ ap (λ n. n + 1) are.sessions ∙ sym (length_push parts.remain []);
      gone = λ s. ap (λ (m : SessionMark). m.gone) (same s) ∙ are.gone s ∙ sym (marks_same parts s);
      received = λ s. let long = ap length (remaining_same parts s) in omega (arith, ap (λ (m : SessionMark). m.received) (same s), are.received s, marks_same parts s, long);
      closed = λ s. ap (λ (m : SessionMark). m.closed) (same s) ∙ are.closed s ∙ sym (default_more parts.closed false s);
    }

pending_same : (parts : Parts) (reader writer : TxnId) (key : ℕ) → IsPendingRead (parts_more parts) reader key writer → IsPendingRead parts reader key writer
pending_same parts reader writer key (reads, missing) = (
  subst (λ (o : Option Txn). IsSomeAnd o (λ txn. Contains txn.reads (key, By writer))) (at_same parts reader) reads,
  λ received. missing (let long = ap length (remaining_same parts writer.session) in omega (arith, received, marks_same parts writer.session, long)),
)

pending_more : (parts : Parts) (reader writer : TxnId) (key : ℕ) → IsPendingRead parts reader key writer → IsPendingRead (parts_more parts) reader key writer
pending_more parts reader writer key (reads, missing) = (
  subst (λ (o : Option Txn). IsSomeAnd o (λ txn. Contains txn.reads (key, By writer))) (sym (at_same parts reader)) reads,
  λ received. missing (let long = ap length (remaining_same parts writer.session) in omega (arith, received, marks_same parts writer.session, long)),
)

pub index_more : (index : Index) (parts : Parts) → IsIndexOf index parts → IsIndexOf index (parts_more parts)
index_more index parts is = λ reader writer key. (λ waits. pending_more parts reader writer key ((is reader writer key).0 waits), λ pending. (is reader writer key).1 (pending_same parts reader writer key pending))

pub index_back : (index : Index) (parts : Parts) → IsIndexOf index (parts_more parts) → IsIndexOf index parts
index_back index parts is = λ reader writer key. (λ waits. pending_same parts reader writer key ((is reader writer key).0 waits), λ pending. (is reader writer key).1 (pending_more parts reader writer key pending))

pub tracked_more : (parts new : Parts) (marks new_marks : List SessionMark) (waits : Index) → new ≡ parts_more parts → new_marks ≡ marks ++ fresh ∷ [] → length parts.remain < parts.most_sessions → IsTracked marks waits parts → IsTracked new_marks waits new
tracked_more parts new marks new_marks waits e m few tracked =
    subst (λ (p : Parts). IsTracked new_marks waits p) (sym e)
    (subst (λ (ms : List SessionMark). IsTracked ms waits (parts_more parts)) (sym m) (record {
      good = good_more parts tracked.good few;
      marks_fit = marks_more marks parts tracked.marks_fit;
      waits_fit = index_more waits parts tracked.waits_fit;
    }))

-- the fragment is next in the new session
pub admitted_more : (parts : Parts) (f : Fragment) → IsGood parts → IsLetIn parts f → f.session ≡ length parts.remain → IsAdmitted (parts_more parts) f
admitted_more parts f good fits new = record {
  well_formed = fits.well_formed;
  next = record {
    session = (omega (arith, new, length_push parts.remain []), λ closed. is_open (closed_at closed));
    next = let long = ap length (remaining_same parts f.session) in omega (arith, fits.next, marks_same parts f.session, long);
  };
  room = let sum : sum_by length (parts.remain ++ [] ∷ []) ≡ sum_by length parts.remain + 0 = sum_by-append length parts.remain ([] ∷ []) in omega (arith, sum, fits.room);
}
  where
    is_open : Some false ≡ Some true → ⊥
    is_open e = cc

    last_flag : (flags : List Bool) (n : ℕ) → n ≡ length flags → slice_get (flags ++ false ∷ []) n ≡ Some false
    last_flag [] zero e = refl
    last_flag [] (suc n) e = absurd (omega arith)
    last_flag (flag ∷ flags) zero e = absurd (omega arith)
    last_flag (flag ∷ flags) (suc n) e = last_flag flags n (omega arith)

    closed_at : slice_get (parts.closed ++ false ∷ []) f.session ≡ Some true → Some false ≡ Some true
    closed_at closed = sym (last_flag parts.closed f.session (new ∙ sym good.closed)) ∙ closed

-- with the fragment in it the session has joined
pub joined_same : (parts : Parts) (f : Fragment) → f.session ≡ length parts.remain → parts_with (parts_more parts) f ≡ parts_joined parts f
joined_same parts f new = ap (λ (remain : History). record (parts_more parts) { remain = remain }) remain
  where
    past : (sessions : List (List Txn)) (n : ℕ) → n ≡ length sessions → get_or (sessions ++ [] ∷ []) n [] ≡ []
    past [] zero e = refl
    past [] (suc n) e = absurd (omega arith)
    past (one ∷ sessions) zero e = absurd (omega arith)
    past (one ∷ sessions) (suc n) e = past sessions n (omega arith)

    remain : slice_set (parts.remain ++ [] ∷ []) f.session (session_of (parts.remain ++ [] ∷ []) f.session ++ f.txns) ≡ parts.remain ++ f.txns ∷ []
    remain = set_last parts.remain [] (session_of (parts.remain ++ [] ∷ []) f.session ++ f.txns) f.session new ∙ ap (λ (txns : List Txn). parts.remain ++ (txns ++ f.txns) ∷ []) (past parts.remain f.session new)

-- a session that is open again

good_flagged : (parts : Parts) (s : ℕ) (flag : Bool) → IsGood parts → IsGood (parts_flagged parts s flag)
good_flagged parts s flag good = record {
  some_sessions = good.some_sessions;
  few_sessions = good.few_sessions;
  low_sessions = good.low_sessions;
  marks = good.marks;
  closed = length-set parts.closed s flag ∙ good.closed;
  some_limit = good.some_limit;
  low_limit = good.low_limit;
  room = good.room;
  numbers = good.numbers;
  well_formed = good.well_formed;
  short = good.short;
  base = good.base;
}

pub tracked_flagged : (parts new : Parts) (marks new_marks : List SessionMark) (waits : Index) (s : ℕ) (flag : Bool) → new ≡ parts_flagged parts s flag → new_marks ≡ with_flag marks s flag → s < length parts.remain → IsTracked marks waits parts → IsTracked new_marks waits new
tracked_flagged parts new marks new_marks waits s flag e m within tracked =
    subst (λ (p : Parts). IsTracked new_marks waits p) (sym e)
    (subst (λ (ms : List SessionMark). IsTracked ms waits (parts_flagged parts s flag)) (sym m) (record {
      good = good_flagged parts s flag tracked.good;
      marks_fit = marks_flagged marks parts s flag tracked.marks_fit tracked.good within;
      waits_fit = tracked.waits_fit;
    }))

pub admitted_reopened : (parts : Parts) (f : Fragment) → IsLetIn parts f → IsClosedSession parts f.session → IsAdmitted (parts_flagged parts f.session false) f
admitted_reopened parts f fits closed = record {
  well_formed = fits.well_formed;
  next = record { session = (closed.0, λ is. opened parts.closed f.session is); next = fits.next };
  room = fits.room;
}
  where
    opened : (flags : List Bool) (s : ℕ) → slice_get (slice_set flags s false) s ≡ Some true → ⊥
    opened [] s e = let none : None ≡ Some true = e in cc
    opened (flag ∷ flags) zero e = let no : Some false ≡ Some true = e in cc
    opened (flag ∷ flags) (suc s) e = opened flags s e

-- closed as it was
pub closed_again : (flags : List Bool) (s : ℕ) → slice_get flags s ≡ Some true → slice_set (slice_set flags s false) s true ≡ flags
closed_again [] s e = refl
closed_again (flag ∷ flags) zero e = let same : true ≡ flag = cc in ap (λ f. f ∷ flags) same
closed_again (flag ∷ flags) (suc s) e = ap (λ fs. flag ∷ fs) (closed_again flags s e)

pub parts_again : (parts mid back new : Parts) (s : ℕ) → mid ≡ parts_flagged parts s false → back ≡ mid → new ≡ parts_flagged back s true → slice_get parts.closed s ≡ Some true → new ≡ parts
parts_again parts mid back new s e b n was =
    n ∙ ap (λ (p : Parts). parts_flagged p s true) (b ∙ e) ∙ ap (λ (flags : List Bool). record parts { closed = flags }) (closed_again parts.closed s was)

-- a session more, and as it was

-- the marks of a session more, without the last, are those of the rest
marks_less : (marks : List SessionMark) (parts : Parts) → IsGood parts → AreMarksOf marks (parts_more parts) → AreMarksOf (take (length marks - 1) marks) parts
marks_less marks parts good are = record {
  sessions = omega (arith, count, long);
  gone = λ s. by_gone s (cases_lt s n);
  received = λ s. by_received s (cases_lt s n);
  closed = λ s. by_closed s (cases_lt s n);
}
  where
    n : ℕ
    n = length marks - 1

    long : length marks ≡ length parts.remain + 1
    long = are.sessions ∙ length_push parts.remain []

    count : length (take (length marks - 1) marks) ≡ length marks - 1
    count = length-take-le (length marks - 1) marks (omega arith)

    inside : (s : ℕ) → s < n → mark_at (take n marks) s ≡ mark_at marks s
    inside s low = get_or-take n marks s fresh low

    past : (s : ℕ) → n ≤ s → mark_at (take n marks) s ≡ fresh
    past s high = get_or_past (take n marks) s fresh (omega (arith, count, high))

    by_gone : (s : ℕ) → (s < n) ⊎ (n ≤ s) → (mark_at (take n marks) s).gone ≡ mark_of parts s
    by_gone s (inl low) = ap (λ (m : SessionMark). m.gone) (inside s low) ∙ are.gone s ∙ marks_same parts s
    by_gone s (inr high) = ap (λ (m : SessionMark). m.gone) (past s high) ∙ sym (get_or_past parts.base.marks s 0 (omega (arith, high, long, good.marks)))

    by_received : (s : ℕ) → (s < n) ⊎ (n ≤ s) → (mark_at (take n marks) s).received ≡ received_count parts s
    by_received s (inl low) = let size = ap length (remaining_same parts s) in omega (arith, ap (λ (m : SessionMark). m.received) (inside s low), are.received s, marks_same parts s, size)
    by_received s (inr high) =
        let none : mark_of parts s ≡ 0 = get_or_past parts.base.marks s 0 (omega (arith, high, long, good.marks)) in
        let size : length (remaining_of parts s) ≡ 0 = ap length (get_or_past parts.remain s [] (omega (arith, high, long))) in
        omega (arith, ap (λ (m : SessionMark). m.received) (past s high), none, size)

    by_closed : (s : ℕ) → (s < n) ⊎ (n ≤ s) → (mark_at (take n marks) s).closed ≡ get_or parts.closed s false
    by_closed s (inl low) = ap (λ (m : SessionMark). m.closed) (inside s low) ∙ are.closed s ∙ default_more parts.closed false s
    by_closed s (inr high) = ap (λ (m : SessionMark). m.closed) (past s high) ∙ sym (get_or_past parts.closed s false (omega (arith, high, long, good.closed)))

pub tracked_less : (parts mid new : Parts) (mid_marks new_marks : List SessionMark) (waits : Index) → mid ≡ parts_more parts → new ≡ parts → new_marks ≡ take (length mid_marks - 1) mid_marks → IsGood parts → IsTracked mid_marks waits mid → IsTracked new_marks waits new
tracked_less parts mid new mid_marks new_marks waits e n m good tracked =
    subst (λ (p : Parts). IsTracked new_marks waits p) (sym n)
    (subst (λ (ms : List SessionMark). IsTracked ms waits parts) (sym m) (record {
      good = good;
      marks_fit = marks_less mid_marks parts good (subst (λ (p : Parts). AreMarksOf mid_marks p) e tracked.marks_fit);
      waits_fit = index_back waits parts (subst (λ (p : Parts). IsIndexOf waits p) e tracked.waits_fit);
    }))
