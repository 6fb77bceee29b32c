-- What an engine keeps is kept by its calls.
use Rattle.std.proofs.Common.{◌≡◌, ℕ, ◌-◌, ◌<◌, ◌≤◌, Bool, true, false, cond, nat_lt, List, [], length, Option, Some, None, refl, sym, ap, ◌∙◌, subst, inl, inr, arith, get_or}
use Rattle.std.specs.Prelude.{replicate, slice_get, slice_set, Contains, IsSomeAnd}
use Rattle.std.specs.FinMap as map
use Rattle.std.specs.Ordering.{nat_cmp}
use Rattle.std.proofs.lemmas.Bool.{cases_lt}
use Rattle.std.proofs.lemmas.List.{length-replicate, get_or-replicate, get_or_past}
use Rattle.std.proofs.lemmas.List.Folds.{sum_by-replicate}
use Rattle.std.proofs.lemmas.Option.{none-some}
use Rattle.txn.specs.declared.transactions.TxnId.{TxnId}
use Rattle.txn.specs.declared.transactions.Txn.{Txn}
use Rattle.txn.specs.declared.transactions.Fragment.{Fragment}
use Rattle.txn.specs.declared.transactions.Source.TheVariants.{By}
use Rattle.txn.specs.History.{Reads}
use Rattle.session_marks.specs.declared.marks.SessionMark.{SessionMark}
use Rattle.session_marks.specs.Marks.{mark_at, with_closed}
use Rattle.session_marks.specs.Marks.{fresh as fresh_mark}
use Rattle.pending_reads.specs.Waiting.{Index}
use Rattle.order_check.specs.declared.remainder.Parts.{Parts}
use Rattle.order_check.specs.Based.{mark_of, remaining_of, remaining_at}
use Rattle.order_check.specs.Good.{IsGood}
use Rattle.order_check.specs.FrontLaws.{FragmentKeepsFront, CloseKeepsFront}
use Rattle.order_check.specs.StandsFor.{IsOpenSession, parts_with, parts_closed}
use Rattle.settle.specs.declared.cuts.Cut.{Cut}
use Rattle.order_check.specs.Laws.{StandsForWhatRemains}
use Rattle.order_check.specs.NoBase.{HasNoBase}
use Rattle.round_state.specs.EngineState.{EngineState}
use Rattle.round_state.specs.Runs.{Holds}
use Rattle.round_state.specs.Kept.{IsKept, AreKeptFronts}
use Rattle.round_state.specs.Opening.{IsSessions, IsLimit, empty_parts, fresh, fresh_state}
use Rattle.round_state.specs.Tracked.{AreMarksOf, IsIndexOf, IsTracked}
use Rattle.round_state.proofs.Grown.{good_closed}
use Rattle.round_state.proofs.Marked.{marks_closed}

no_cut : (cut : Cut) → None ≡ Some cut → ⊥
no_cut cut h = cc

-- what is kept of fronts

pub no_fronts : (parts : Parts) → AreKeptFronts parts None None
no_fronts parts = record { round = λ snapshot h. absurd (none-some snapshot h); cut = λ cut h. absurd (no_cut cut h) }

fronts_with : (parts : Parts) (asked : Option Parts) (held : Option Cut) (f : Fragment) → FragmentKeepsFront → IsOpenSession parts f.session → AreKeptFronts parts asked held → AreKeptFronts (parts_with parts f) asked held
fronts_with parts asked held f law receives fronts = record {
  round = λ snapshot e. law snapshot parts f (fronts.round snapshot e) receives;
  cut = λ cut e.
      let one = fronts.cut cut e in
      record { front = one.front; kept = law one.front parts f one.kept receives; order = one.order; found = one.found };
}

fronts_closed : (parts : Parts) (asked : Option Parts) (held : Option Cut) (s : ℕ) → CloseKeepsFront → AreKeptFronts parts asked held → AreKeptFronts (parts_closed parts s) asked held
fronts_closed parts asked held s law fronts = record {
  round = λ snapshot e. law snapshot parts s (fronts.round snapshot e);
  cut = λ cut e.
      let one = fronts.cut cut e in
      record { front = one.front; kept = law one.front parts s one.kept; order = one.order; found = one.found };
}

-- After a call that keeps its fronts, and what is kept beside its parts.
pub kept_by : (parts new : Parts) (marks new_marks : List SessionMark) (waits new_waits : Index) (asked : Option Parts) (held new_held : Option Cut) (rounds : ℕ) → IsTracked new_marks new_waits new → AreKeptFronts new asked new_held → IsKept parts marks waits asked held rounds → IsKept new new_marks new_waits asked new_held rounds
kept_by parts new marks new_marks waits new_waits asked held new_held rounds tracked fronts kept = record {
  good = tracked.good;
  marks_fit = tracked.marks_fit;
  waits_fit = tracked.waits_fit;
  fronts = fronts;
  numbers = kept.numbers;
  number = kept.number;
}

-- what an engine keeps beside its parts tells of them
pub tracked_of : (parts : Parts) (marks : List SessionMark) (waits : Index) (asked : Option Parts) (held : Option Cut) (rounds : ℕ) → IsKept parts marks waits asked held rounds → IsTracked marks waits parts
tracked_of parts marks waits asked held rounds kept = record { good = kept.good; marks_fit = kept.marks_fit; waits_fit = kept.waits_fit }

-- parts as they were
pub kept_refused : (parts new : Parts) (marks new_marks : List SessionMark) (waits new_waits : Index) (asked : Option Parts) (held : Option Cut) (rounds : ℕ) → new ≡ parts → IsTracked new_marks new_waits new → IsKept parts marks waits asked held rounds → IsKept new new_marks new_waits asked held rounds
kept_refused parts new marks new_marks waits new_waits asked held rounds e tracked kept =
    kept_by parts new marks new_marks waits new_waits asked held held rounds tracked (subst (λ (p : Parts). AreKeptFronts p asked held) (sym e) kept.fronts) kept

-- a fragment that was admitted
pub kept_offered : FragmentKeepsFront → (parts new : Parts) (marks new_marks : List SessionMark) (waits new_waits : Index) (asked : Option Parts) (held : Option Cut) (rounds : ℕ) (f : Fragment) → new ≡ parts_with parts f → IsOpenSession parts f.session → IsTracked new_marks new_waits new → IsKept parts marks waits asked held rounds → IsKept new new_marks new_waits asked held rounds
kept_offered law parts new marks new_marks waits new_waits asked held rounds f e receives tracked kept =
    kept_by parts new marks new_marks waits new_waits asked held held rounds tracked (subst (λ (p : Parts). AreKeptFronts p asked held) (sym e) (fronts_with parts asked held f law receives kept.fronts)) kept

-- no round is open, and no cut is held any more
pub kept_joined : (parts new : Parts) (marks new_marks : List SessionMark) (waits new_waits : Index) (asked : Option Parts) (held : Option Cut) (rounds : ℕ) → asked ≡ None → IsTracked new_marks new_waits new → IsKept parts marks waits asked held rounds → IsKept new new_marks new_waits asked None rounds
kept_joined parts new marks new_marks waits new_waits asked held rounds none tracked kept =
    kept_by parts new marks new_marks waits new_waits asked held None rounds tracked (subst (λ (a : Option Parts). AreKeptFronts new a None) (sym none) (no_fronts new)) kept

-- a session closed
pub kept_closed : CloseKeepsFront → (parts : Parts) (marks : List SessionMark) (waits : Index) (asked : Option Parts) (held : Option Cut) (rounds s : ℕ) (closed : List Bool) → closed ≡ slice_set parts.closed s true → s < length parts.remain → IsKept parts marks waits asked held rounds → IsKept (record parts { closed = closed }) (with_closed marks s) waits asked held rounds
kept_closed law parts marks waits asked held rounds s closed e within kept = subst (λ (flags : List Bool). IsKept (record parts { closed = flags }) (with_closed marks s) waits asked held rounds) (sym e) (record {
  good = good_closed parts s kept.good;
  marks_fit = marks_closed marks parts s kept.marks_fit kept.good within;
  waits_fit = kept.waits_fit;
  fronts = fronts_closed parts asked held s law kept.fronts;
  numbers = kept.numbers;
  number = kept.number;
})

-- a list of one value everywhere has it everywhere
same_at : {X : Type 0} (n s : ℕ) (x : X) → get_or (replicate n x) s x ≡ x
same_at n s x = elim (cases_lt s n) [
  | inl within ↦ get_or-replicate n s x x within
  | inr past ↦ let low : length (replicate n x) ≤ s = omega (arith, length-replicate n x) in get_or_past (replicate n x) s x low
]

pub no_txn : (txns : List Txn) (n : ℕ) (txn : Txn) → txns ≡ [] → slice_get txns n ≡ Some txn → ⊥
no_txn txns n txn e h = let at : None ≡ Some txn = ap (λ (xs : List Txn). slice_get xs n) (sym e) ∙ h in cc

no_writer : (key : ℕ) (writer : TxnId) → map.get {R = nat_cmp} map.empty key ≡ Some writer → ⊥
no_writer key writer h = let at : None ≡ Some writer = sym (map.get-empty nat_cmp key) ∙ h in cc

good_empty : (most sessions limit : ℕ) → IsSessions most sessions → IsLimit limit → IsGood (empty_parts most sessions limit)
good_empty most sessions limit many low =
    let size = length-replicate {A = List Txn} sessions [] in
    let none : (s : ℕ) → remaining_of (empty_parts most sessions limit) s ≡ [] = λ s. same_at sessions s [] in
    record {
      some_sessions = omega (arith, size, many.0);
      few_sessions = omega (arith, size, many.1);
      low_sessions = many.2;
      marks = length-replicate sessions 0 ∙ sym size;
      closed = length-replicate sessions _ ∙ sym size;
      some_limit = low.0;
      low_limit = omega (arith, low.1);
      room = omega (arith, sum_by-replicate (λ (txns : List Txn). length txns) sessions []);
      numbers = λ s. omega (arith, same_at {X = ℕ} sessions s 0, ap (λ (txns : List Txn). length txns) (none s));
      well_formed = λ s n txn h. absurd (no_txn (remaining_of (empty_parts most sessions limit) s) n txn (none s) h);
      short = λ s n txn h. absurd (no_txn (remaining_of (empty_parts most sessions limit) s) n txn (none s) h);
      base = λ key writer h. absurd (no_writer key writer h);
    }

abbrev no_txns : List Txn
no_txns = []

-- nothing remains, so nothing is read
no_read : (most sessions limit : ℕ) (reader writer : TxnId) (key : ℕ) → Reads (remaining_at (empty_parts most sessions limit)) reader key (By writer) → ⊥
no_read most sessions limit reader writer key reads = by_place (nat_lt reader.number (mark_of (empty_parts most sessions limit) reader.session)) (subst (λ (txns : List Txn). IsSomeAnd (cond (nat_lt reader.number (mark_of (empty_parts most sessions limit) reader.session)) None (slice_get txns (reader.number - mark_of (empty_parts most sessions limit) reader.session))) (λ txn. Contains txn.reads (key, By writer))) (same_at sessions reader.session []) reads)
  where
    by_place : (t : Bool) → IsSomeAnd (cond t None (slice_get no_txns (reader.number - mark_of (empty_parts most sessions limit) reader.session))) (λ txn. Contains txn.reads (key, By writer)) → ⊥
    by_place true h = h
    by_place false h = h

index_fresh : (most sessions limit : ℕ) → IsIndexOf [] (empty_parts most sessions limit)
index_fresh most sessions limit = λ reader writer key. (λ waits. absurd (omega (arith, waits.1)), λ pending. absurd (no_read most sessions limit reader writer key pending.0))

marks_fresh : (most sessions limit : ℕ) → AreMarksOf (replicate sessions fresh_mark) (empty_parts most sessions limit)
marks_fresh most sessions limit =
    let all : (s : ℕ) → mark_at (replicate sessions fresh_mark) s ≡ fresh_mark = λ s. same_at sessions s fresh_mark in
    record {
      sessions = length-replicate sessions fresh_mark ∙ sym (length-replicate {A = List Txn} sessions []);
      gone = λ s. ap (λ (m : SessionMark). m.gone) (all s) ∙ sym (same_at {X = ℕ} sessions s 0);
      received = λ s. omega (arith, ap (λ (m : SessionMark). m.received) (all s), same_at {X = ℕ} sessions s 0, ap (λ (txns : List Txn). length txns) (same_at {X = List Txn} sessions s []));
      closed = λ s. ap (λ (m : SessionMark). m.closed) (all s) ∙ sym (same_at {X = Bool} sessions s false);
    }

pub kept_fresh : (most sessions limit : ℕ) (parts : Parts) (marks : List SessionMark) → parts ≡ empty_parts most sessions limit → marks ≡ replicate sessions fresh_mark → IsSessions most sessions → IsLimit limit → IsKept parts marks [] None None 0
kept_fresh most sessions limit parts marks e m many low =
    record {
      good = subst IsGood (sym e) (good_empty most sessions limit many low);
      marks_fit = subst (λ (p : Parts). AreMarksOf marks p) (sym e) (subst (λ (ms : List SessionMark). AreMarksOf ms (empty_parts most sessions limit)) (sym m) (marks_fresh most sessions limit));
      waits_fit = subst (λ (p : Parts). IsIndexOf [] p) (sym e) (index_fresh most sessions limit);
      fronts = no_fronts parts;
      numbers = omega arith;
      number = λ snapshot h. absurd cc;
    }

-- a fresh engine holds the state in which nothing has been received
pub fresh_holds : (most sessions limit : ℕ) (engine : EngineState) → StandsForWhatRemains → engine ≡ fresh most sessions limit → Holds engine (fresh_state most sessions limit)
fresh_holds most sessions limit engine law e =
    let none : HasNoBase (empty_parts most sessions limit) = record { marks = λ s. same_at {X = ℕ} sessions s 0; last = refl } in
    subst (λ (engine : EngineState). Holds engine (fresh_state most sessions limit)) (sym e) (record {
      same = refl;
      parts = law (empty_parts most sessions limit) none;
      asked = λ parts h. let none_is_some : None ≡ Some parts = h in absurd (none-some parts none_is_some);
    })
