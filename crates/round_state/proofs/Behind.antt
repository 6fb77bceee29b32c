-- Fronts that known relations are kept of: they stay behind the parts, and are caught up.
use Rattle.std.proofs.Common.{◌≡◌, ◌≢◌, ℕ, suc, ◌+◌, ◌<◌, ◌≤◌, Bool, true, false, List, [], ◌∷◌, ◌++◌, length, drop, Option, Some, None, refl, sym, ap, ◌∙◌, subst, inl, inr, arith, get_or, append-nil, length-append, length-set, get_or-set_same, get_or-set_other}
use Rattle.std.specs.Prelude.{IfSome, IsSomeAnd, slice_get, slice_set, sum_by}
use Rattle.std.specs.FinMap as map
use Rattle.std.proofs.lemmas.Bool.{cases_eq, cases_lt}
use Rattle.std.proofs.lemmas.List.{same_lists, get_or_append_left, get_or_default}
use Rattle.std.proofs.lemmas.Option.{IfSome_then, slice_get_within, slice_get-get_or, get_or_from_slice_get}
use Rattle.std.proofs.lemmas.List.Sums.{sum_by-cons}
use Rattle.std.proofs.Math.Seq.{drop-append_seam}
use Rattle.txn.specs.declared.transactions.Txn.{Txn}
use Rattle.txn.specs.declared.transactions.Fragment.{Fragment}
use Rattle.txn.specs.declared.transactions.TxnId.{TxnId}
use Rattle.txn.specs.History.{History, session_of}
use Rattle.txn.specs.Transactions.{IsWellFormed}
use Rattle.order_check.specs.declared.remainder.Parts.{Parts}
use Rattle.order_check.specs.declared.remainder.Base.{Base}
use Rattle.order_check.specs.Based.{mark_of, remaining_of}
use Rattle.order_check.specs.Cuts.{IsFront, GoesOn, MayGoOn, IsContentCutOff}
use Rattle.order_check.specs.FrontLaws.{FrontOfItself, FragmentKeepsFront, CloseKeepsFront}
use Rattle.order_check.specs.Good.{IsGood}
use Rattle.order_check.specs.Settled.{IsCutOf}
use Rattle.order_check.specs.StandsFor.{IsOpenSession, parts_with}
use Rattle.clock_choices.specs.SaturatedState.{SaturatedState}
use Rattle.settle.specs.declared.cuts.Cut.{Cut}
use Rattle.round_state.specs.Behind.{IsBehind, AreKnownBehind, IsCaughtBelow, IsClosedBelow, fragment_behind}
use Rattle.round_state.specs.Kept.{IsFitting}
use Rattle.round_state.specs.OpenRounds.{IsOpenOn}
use Rattle.round_state.specs.Phases.{begun_in, known_in}
use Rattle.round_state.specs.declared.phases.Phase.{Phase}
use Rattle.round_state.specs.declared.snapshots.OpenRound.{OpenRound}

-- what stays behind

behind_itself : FrontOfItself → (front parts : Parts) → front ≡ parts → IsBehind front parts
behind_itself law front parts e = subst (λ (p : Parts). IsBehind p parts) (sym e) (record { kept = law parts; most_sessions = refl; limit = refl })

pub known_with : FragmentKeepsFront → (parts new : Parts) (asked : Option OpenRound) (known : Option SaturatedState) (f : Fragment) → new ≡ parts_with parts f → IsOpenSession parts f.session → AreKnownBehind parts asked known → AreKnownBehind new asked known
known_with law parts new asked known f e receives are = subst (λ (p : Parts). AreKnownBehind p asked known) (sym e) (record {
  last = IfSome_then known are.last (λ one behind. record { kept = law one.parts parts f behind.kept receives; most_sessions = behind.most_sessions; limit = behind.limit });
  round = are.round;
})

pub known_closed : CloseKeepsFront → (parts : Parts) (asked : Option OpenRound) (known : Option SaturatedState) (s : ℕ) (closed : List Bool) → closed ≡ slice_set parts.closed s true → AreKnownBehind parts asked known → AreKnownBehind (record parts { closed = closed }) asked known
known_closed law parts asked known s closed e are = subst (λ (flags : List Bool). AreKnownBehind (record parts { closed = flags }) asked known) (sym e) (record {
  last = IfSome_then known are.last (λ one behind. record { kept = law one.parts parts s behind.kept; most_sessions = behind.most_sessions; limit = behind.limit });
  round = are.round;
})

-- parts as they were
pub known_parts : (old new : Parts) (asked : Option OpenRound) (known : Option SaturatedState) → new ≡ old → AreKnownBehind old asked known → AreKnownBehind new asked known
known_parts old new asked known e are = subst (λ (parts : Parts). AreKnownBehind parts asked known) (sym e) are

-- where no round is open

no_round : (asked : Option OpenRound) (known : Option SaturatedState) → asked ≡ None → (one : OpenRound) → asked ≡ Some one → IsSomeAnd known (λ relation. IsOpenOn relation.parts one)
no_round asked known none one some = absurd (not_some one (sym none ∙ some))
  where
    not_some : (one : OpenRound) → None ≡ Some one → ⊥
    not_some one h = cc

-- nothing is kept
pub known_none : (parts : Parts) (asked : Option OpenRound) (known : Option SaturatedState) → known ≡ None → asked ≡ None → AreKnownBehind parts asked known
known_none parts asked known none no_open = record {
  last = subst (λ (k : Option SaturatedState). IfSome k (λ one. IsBehind one.parts parts)) (sym none) tt;
  round = no_round asked known no_open;
}

-- a round that begins is about the parts, as is the relation
pub known_begun : FrontOfItself → (parts : Parts) (one : OpenRound) (relation : SaturatedState) → relation.parts ≡ parts → IsOpenOn relation.parts one → AreKnownBehind parts (Some one) (Some relation)
known_begun law parts one relation e on = record {
  last = behind_itself law relation.parts parts e;
  round = λ other same. subst (λ (o : OpenRound). IsOpenOn relation.parts o) (same_round one other same) on;
}
  where
    same_round : (a b : OpenRound) → Some a ≡ Some b → a ≡ b
    same_round a b h = cc

-- a round that ends leaves its relation
pub known_after_end : (parts : Parts) (old new : Phase) → begun_in new ≡ None → known_in new ≡ known_in old → AreKnownBehind parts (begun_in old) (known_in old) → AreKnownBehind parts (begun_in new) (known_in new)
known_after_end parts old new none same are = record {
  last = subst (λ (k : Option SaturatedState). IfSome k (λ one. IsBehind one.parts parts)) (sym same) are.last;
  round = no_round (begun_in new) (known_in new) none;
}

-- what is the parts' own relation is behind them
pub known_whole : FrontOfItself → (parts : Parts) (asked : Option OpenRound) (known : Option SaturatedState) → asked ≡ None → IfSome known (λ one. one.parts ≡ parts) → AreKnownBehind parts asked known
known_whole law parts asked known none is = record {
  last = IfSome_then known is (λ one same. behind_itself law one.parts parts same);
  round = no_round asked known none;
}

-- what is kept is behind, and so is what is taken from it
pub last_behind : (parts : Parts) (asked : Option OpenRound) (known taken : Option SaturatedState) → IfSome taken (λ one. known ≡ Some one) → AreKnownBehind parts asked known → IfSome taken (λ one. IsBehind one.parts parts)
last_behind parts asked known taken from are = IfSome_then taken from (λ one e. subst (λ (k : Option SaturatedState). IfSome k (λ one. IsBehind one.parts parts)) e are.last)

-- a cut that fits the parts cuts what is known of them
pub known_cut : (old new : Parts) (cut : Cut) (gone : List TxnId) (whole : Option SaturatedState) → gone ≡ cut.gone → IsFitting old cut → IsCutOf old new cut.gone cut.last → IfSome whole (λ known. known.parts ≡ old) → IfSome whole (λ known. IsContentCutOff known.parts gone new)
known_cut old new cut gone whole g fit leaves is = IfSome_then whole is (λ one same. subst (λ (ids : List TxnId). IsContentCutOff one.parts ids new) (sym g) (record {
  before = old;
  after = new;
  same_before = record { base = ap (λ (p : Parts). p.base) (sym same); remain = ap (λ (p : Parts). p.remain) (sym same) };
  same_after = record { base = refl; remain = refl };
  cut_off = fit.cut_off new leaves;
}))

-- a front of good parts is good

front_sum : (xs ys : History) → length xs ≡ length ys → ((s : ℕ) → (later : List Txn) × (session_of ys s ≡ session_of xs s ++ later)) → sum_by length xs ≤ sum_by length ys
front_sum [] ys e front = omega arith
front_sum (x ∷ xs) [] e front = absurd (omega (arith, e))
front_sum (x ∷ xs) (y ∷ ys) e front =
    let rest = front_sum xs ys (omega (arith, e)) (λ s. front (suc s)) in
    let long = ap (λ (txns : List Txn). length txns) (front 0).1 ∙ length-append x (front 0).0 in
    omega (arith, rest, long, sum_by-cons (λ (txns : List Txn). length txns) x xs, sum_by-cons (λ (txns : List Txn). length txns) y ys)

within_more : (txns front later : List Txn) (n : ℕ) (txn : Txn) → txns ≡ front ++ later → slice_get front n ≡ Some txn → slice_get txns n ≡ Some txn
within_more txns front later n txn e h =
    let inside = slice_get_within front n txn h in
    let long : n < length (front ++ later) = omega (arith, inside, length-append front later) in
    let value : get_or (front ++ later) n txn ≡ txn = get_or_append_left front later txn n inside ∙ get_or_from_slice_get front n txn txn h in
    ap (λ (list : List Txn). slice_get list n) e ∙ slice_get-get_or (front ++ later) n txn long ∙ ap (λ (one : Txn). Some one) value

pub good_front : (front parts : Parts) → IsBehind front parts → length front.closed ≡ length parts.closed → IsGood parts → IsGood front
good_front front parts behind flags good =
    let is = behind.kept.is_front in
    let base = behind.kept.base in
    let sessions = behind.kept.sessions in
    let marks : (s : ℕ) → mark_of front s ≡ mark_of parts s = is.marks in
    record {
      some_sessions = omega (arith, sessions, good.some_sessions);
      few_sessions = omega (arith, sessions, behind.most_sessions, good.few_sessions);
      low_sessions = omega (arith, behind.most_sessions, good.low_sessions);
      marks = ap (λ (b : Base). length b.marks) base ∙ good.marks ∙ sym sessions;
      closed = flags ∙ good.closed ∙ sym sessions;
      some_limit = omega (arith, behind.limit, good.some_limit);
      low_limit = omega (arith, behind.limit, good.low_limit);
      room = omega (arith, front_sum front.remain parts.remain sessions is.remain, behind.limit, good.room);
      numbers = λ s. omega (arith, marks s, good.numbers s, ap (λ (txns : List Txn). length txns) (is.remain s).1, length-append (remaining_of front s) (is.remain s).0);
      well_formed = λ s n txn h.
          subst (λ (most : ℕ). IsWellFormed most (record { session = s; number = mark_of front s + n }) txn) (sym behind.most_sessions)
          (subst (λ (mark : ℕ). IsWellFormed parts.most_sessions (record { session = s; number = mark + n }) txn) (sym (marks s))
          (good.well_formed s n txn (within_more (remaining_of parts s) (remaining_of front s) (is.remain s).0 n txn (is.remain s).1 h)));
      short = λ s n txn h. good.short s n txn (within_more (remaining_of parts s) (remaining_of front s) (is.remain s).0 n txn (is.remain s).1 h);
      base = λ key writer h.
          let gone : writer.number < mark_of parts writer.session = good.base key writer (ap (λ (b : Base). map.get b.last key) (sym base) ∙ h) in
          omega (arith, gone, marks writer.session);
    }

-- what came of a session, behind the front

came : (front parts : Parts) (s : ℕ) → IsBehind front parts → remaining_of front s ++ drop (length (remaining_of front s)) (remaining_of parts s) ≡ remaining_of parts s
came front parts s behind =
    let later = behind.kept.is_front.remain s in
    ap (λ (txns : List Txn). remaining_of front s ++ drop (length (remaining_of front s)) txns) later.1
    ∙ ap (λ (txns : List Txn). remaining_of front s ++ txns) (drop-append_seam (remaining_of front s) later.0)
    ∙ sym later.1

pub caught_none : (front parts : Parts) (s : ℕ) (txns : List Txn) → txns ≡ drop (length (remaining_of front s)) (remaining_of parts s) → txns ≡ [] → IsCaughtBelow front parts s → IsCaughtBelow front parts (s + 1)
caught_none front parts s txns is none below = record {
  behind = below.behind;
  flags = below.flags;
  caught = λ t low. elim (cases_lt t s) [
    | inl before ↦ below.caught t before
    | inr here ↦
        let same : t ≡ s = omega (arith, low, here) in
        let all : remaining_of front s ≡ remaining_of parts s = sym (append-nil (remaining_of front s)) ∙ ap (λ (more : List Txn). remaining_of front s ++ more) (sym none ∙ is) ∙ came front parts s below.behind in
        subst (λ (q : ℕ). remaining_of front q ≡ remaining_of parts q) (sym same) all
  ];
}

pub caught_more : (front parts : Parts) (s : ℕ) → s < length parts.remain → IsCaughtBelow front parts s → IsCaughtBelow (parts_with front (fragment_behind front parts s)) parts (s + 1)
caught_more front parts s within below = record { behind = record { kept = record { base = below.behind.kept.base; sessions = same_sessions; is_front = is_front; open_there = open_there }; most_sessions = below.behind.most_sessions; limit = below.behind.limit }; flags = below.flags; caught = caught }
  where
    new : Parts
    new = parts_with front (fragment_behind front parts s)

    sessions : length front.remain ≡ length parts.remain
    sessions = below.behind.kept.sessions

    same_sessions : length new.remain ≡ length parts.remain
    same_sessions = length-set front.remain s (session_of front.remain s ++ drop (length (remaining_of front s)) (remaining_of parts s)) ∙ sessions

    there : s < length front.remain
    there = omega (arith, within, sessions)

    here : (t : ℕ) → t ≡ s → remaining_of new t ≡ remaining_of parts t
    here t same = subst (λ (q : ℕ). remaining_of new q ≡ remaining_of parts q) (sym same)
        (get_or-set_same front.remain s (session_of front.remain s ++ drop (length (remaining_of front s)) (remaining_of parts s)) [] there ∙ came front parts s below.behind)

    other : (t : ℕ) → t ≢ s → remaining_of new t ≡ remaining_of front t
    other t apart = get_or-set_other front.remain s t (session_of front.remain s ++ drop (length (remaining_of front s)) (remaining_of parts s)) [] apart

    is_front : IsFront new parts
    is_front = record {
      last = below.behind.kept.is_front.last;
      marks = below.behind.kept.is_front.marks;
      sessions = omega (arith, same_sessions);
      remain = λ t. elim (cases_eq t s) [
        | inl same ↦ ([], sym (here t same) ∙ sym (append-nil (remaining_of new t)))
        | inr apart ↦ let later = below.behind.kept.is_front.remain t in (later.0, later.1 ∙ ap (λ (txns : List Txn). txns ++ later.0) (sym (other t apart)))
      ];
    }

    went_on : (t : ℕ) → GoesOn new parts t → GoesOn front parts t
    went_on t goes = elim (cases_eq t s) [
      | inl same ↦ absurd (omega (arith, goes, ap (λ (txns : List Txn). length txns) (here t same)))
      | inr apart ↦ omega (arith, goes, ap (λ (txns : List Txn). length txns) (other t apart))
    ]

    may : (t : ℕ) → MayGoOn new parts t → MayGoOn front parts t
    may t (inl receives) = inl receives
    may t (inr goes) = inr (went_on t goes)

    open_there : (t : ℕ) → MayGoOn new parts t → IsOpenSession new t
    open_there t goes =
        let before = below.behind.kept.open_there t (may t goes) in
        (omega (arith, before.0, length-set front.remain s (session_of front.remain s ++ drop (length (remaining_of front s)) (remaining_of parts s))), before.1)

    caught : (t : ℕ) → t < s + 1 → remaining_of new t ≡ remaining_of parts t
    caught t low = elim (cases_eq t s) [
      | inl same ↦ here t same
      | inr apart ↦ other t apart ∙ below.caught t (omega (arith, low, apart))
    ]

-- flags

some_false : Some false ≡ Some true → ⊥
some_false h = cc

-- before the first session nothing need be caught up
pub caught_start : (front parts : Parts) → IsGood front → IsGood parts → IsBehind front parts → IsCaughtBelow front parts 0
caught_start front parts there good behind = record {
  behind = behind;
  flags = there.closed ∙ behind.kept.sessions ∙ sym good.closed;
  caught = λ t low. absurd (omega (arith, low));
}

-- where all sessions are caught up, only flags are left
pub closed_start : (front parts : Parts) (n : ℕ) → IsGood parts → length parts.remain ≤ n → IsCaughtBelow front parts n → IsClosedBelow front parts 0
closed_start front parts n good all below = record {
  same = λ i. record { base = below.behind.kept.base i; remain = remain i; closed = front.closed; most_sessions = below.behind.most_sessions i; limit = below.behind.limit i };
  flags = below.flags;
  low = low;
  closed = λ t before. absurd (omega (arith, before));
}
  where
    sessions : length front.remain ≡ length parts.remain
    sessions = below.behind.kept.sessions

    each : (t : ℕ) (d : List Txn) → t < length front.remain → get_or front.remain t d ≡ get_or parts.remain t d
    each t d within = get_or_default front.remain t d [] within ∙ below.caught t (omega (arith, within, sessions, all)) ∙ get_or_default parts.remain t [] d (omega (arith, within, sessions))

    remain : front.remain ≡ parts.remain
    remain = same_lists front.remain parts.remain sessions each

    by_flag : (t : ℕ) (flag : Bool) → slice_get front.closed t ≡ Some true → slice_get parts.closed t ≡ Some flag → slice_get parts.closed t ≡ Some true
    by_flag t true there here = here
    by_flag t false there here =
        let within : t < length parts.remain = omega (arith, slice_get_within parts.closed t false here, good.closed) in
        absurd ((below.behind.kept.open_there t (inl (within, λ h. some_false (sym here ∙ h)))).1 there)

    low : (t : ℕ) → slice_get front.closed t ≡ Some true → slice_get parts.closed t ≡ Some true
    low t there =
        let within : t < length parts.closed = omega (arith, slice_get_within front.closed t true there, below.flags) in
        by_flag t (get_or parts.closed t true) there (slice_get-get_or parts.closed t true within)

-- at the end it is the parts
pub closed_all : (front parts : Parts) (n : ℕ) → IsGood parts → length parts.remain ≤ n → IsClosedBelow front parts n → front ≡ parts
closed_all front parts n good all below = below.same ∙ ap (λ (flags : List Bool). record parts { closed = flags }) flags
  where
    by_flags : (t : ℕ) (one other : Bool) → t < length front.closed → slice_get front.closed t ≡ Some one → slice_get parts.closed t ≡ Some other → one ≡ other
    by_flags t true true within a b = refl
    by_flags t false false within a b = refl
    by_flags t true false within a b = absurd (some_false (sym b ∙ below.low t a))
    by_flags t false true within a b = absurd (some_false (sym a ∙ below.closed t (omega (arith, within, below.flags, good.closed, all)) b))

    flags : front.closed ≡ parts.closed
    flags = same_lists front.closed parts.closed below.flags (λ t d within.
        by_flags t (get_or front.closed t d) (get_or parts.closed t d) within
        (slice_get-get_or front.closed t d within) (slice_get-get_or parts.closed t d (omega (arith, within, below.flags))))

-- one session, caught up by what `new_of` gives

pub good_with_new : (front parts : Parts) (f : Fragment) (s : ℕ) → IsGood parts → s < length parts.remain → f ≡ fragment_behind front parts s → IsCaughtBelow front parts s → IsGood (parts_with front f)
good_with_new front parts f s good within e below = subst (λ (fragment : Fragment). IsGood (parts_with front fragment)) (sym e)
    (let more = caught_more front parts s within below in good_front (parts_with front (fragment_behind front parts s)) parts more.behind more.flags good)

pub caught_by : (front new parts : Parts) (f : Fragment) (s : ℕ) → s < length parts.remain → f ≡ fragment_behind front parts s → new ≡ parts_with front f → IsCaughtBelow front parts s → IsCaughtBelow new parts (s + 1)
caught_by front new parts f s within e grown below = subst (λ (p : Parts). IsCaughtBelow p parts (s + 1)) (sym (grown ∙ ap (λ (fragment : Fragment). parts_with front fragment) e)) (caught_more front parts s within below)
