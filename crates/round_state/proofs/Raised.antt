-- The marks of an engine, made anew from its parts, and raised after a cut.
use Rattle.std.proofs.Common.{◌≡◌, ◌≢◌, ℕ, zero, suc, ◌+◌, ◌-◌, ◌<◌, ◌≤◌, Bool, true, false, List, [], ◌∷◌, length, Some, refl, sym, ap, ◌∙◌, subst, inl, inr, arith, length-set, get_or, get_or-set_same, get_or-set_other}
use Rattle.std.specs.Prelude.{slice_get, slice_set, IsTrue, ◌↔◌}
use Rattle.std.proofs.lemmas.Bool.{cases_eq, cases_lt, false≢true}
use Rattle.std.proofs.lemmas.List.{get_or_past}
use Rattle.std.proofs.lemmas.Option.{get_or_from_slice_get}
use Rattle.txn.specs.declared.transactions.Txn.{Txn}
use Rattle.session_marks.specs.declared.marks.SessionMark.{SessionMark}
use Rattle.session_marks.specs.Marks.{fresh, mark_at, with_gone}
use Rattle.order_check.specs.declared.remainder.Parts.{Parts}
use Rattle.order_check.specs.Based.{mark_of, remaining_of, received_count}
use Rattle.order_check.specs.Good.{IsGood}
use Rattle.round_state.specs.Tracked.{AreFirstMarks, AreMarksOf, AreRaisedBelow, mark_in}

flag_there : (flags : List Bool) (s : ℕ) → get_or flags s false ≡ true → slice_get flags s ≡ Some true
flag_there [] s is = absurd (false≢true is)
flag_there (flag ∷ flags) zero is = ap Some is
flag_there (flag ∷ flags) (suc s) is = flag_there flags s is

flag_is : (flags : List Bool) (s : ℕ) (b : Bool) → IsTrue b ↔ (slice_get flags s ≡ Some true) → b ≡ get_or flags s false
flag_is flags s true iff = sym (get_or_from_slice_get flags s true false (iff.0 refl))
flag_is flags s false iff = by_flag (get_or flags s false) refl
  where
    by_flag : (v : Bool) → get_or flags s false ≡ v → false ≡ get_or flags s false
    by_flag true e = absurd (false≢true (iff.1 (flag_there flags s e)))
    by_flag false e = sym e

-- how far a session is, as the parts tell it
pub mark_told : (parts : Parts) (s gone received : ℕ) (closed : Bool) → gone ≡ mark_of parts s → received ≡ received_count parts s → IsTrue closed ↔ (slice_get parts.closed s ≡ Some true) → ◌≡◌ {A = SessionMark} (record { gone = gone; received = received; closed = closed }) (mark_in parts s)
mark_told parts s gone received closed g r c = λ i. record { gone = g i; received = r i; closed = flag_is parts.closed s closed c i }

pub first_none : (parts : Parts) → AreFirstMarks [] parts 0
first_none parts = record { sessions = refl; same = λ s within. absurd (omega (arith, within)) }

-- past the sessions everything is none
past_mark : (parts : Parts) (s : ℕ) → IsGood parts → length parts.remain ≤ s → mark_of parts s ≡ 0
past_mark parts s good past = get_or_past parts.base.marks s 0 (omega (arith, past, good.marks))

past_remaining : (parts : Parts) (s : ℕ) → length parts.remain ≤ s → length (remaining_of parts s) ≡ 0
past_remaining parts s past = ap (λ (txns : List Txn). length txns) (get_or_past parts.remain s [] past)

past_flag : (parts : Parts) (s : ℕ) → IsGood parts → length parts.remain ≤ s → get_or parts.closed s false ≡ false
past_flag parts s good past = get_or_past parts.closed s false (omega (arith, past, good.closed))

pub first_all : (parts : Parts) (marks : List SessionMark) (count : ℕ) → IsGood parts → count ≡ length parts.remain → AreFirstMarks marks parts count → AreMarksOf marks parts
first_all parts marks count good e first = record {
  sessions = first.sessions ∙ e;
  gone = λ s. elim (cases_lt s count) [
    | inl low ↦ ap (λ (m : SessionMark). m.gone) (first.same s low)
    | inr high ↦ ap (λ (m : SessionMark). m.gone) (past s high) ∙ sym (past_mark parts s good (omega (arith, high, e)))
  ];
  received = λ s. elim (cases_lt s count) [
    | inl low ↦ ap (λ (m : SessionMark). m.received) (first.same s low)
    | inr high ↦ omega (arith, ap (λ (m : SessionMark). m.received) (past s high), past_mark parts s good (omega (arith, high, e)), past_remaining parts s (omega (arith, high, e)))
  ];
  closed = λ s. elim (cases_lt s count) [
    | inl low ↦ ap (λ (m : SessionMark). m.closed) (first.same s low)
    | inr high ↦ ap (λ (m : SessionMark). m.closed) (past s high) ∙ sym (past_flag parts s good (omega (arith, high, e)))
  ];
}
  where
    past : (s : ℕ) → count ≤ s → mark_at marks s ≡ fresh
    past s high = get_or_past marks s fresh (omega (arith, high, first.sessions))

-- one session more is raised
pub raised_one : (marks new : List SessionMark) (parts : Parts) (s more : ℕ) → new ≡ with_gone marks s more → more ≡ mark_of parts s - (mark_at marks s).gone → s < length parts.remain → AreRaisedBelow marks parts s → AreRaisedBelow new parts (s + 1)
raised_one marks new parts s more e is within below = subst (λ (list : List SessionMark). AreRaisedBelow list parts (s + 1)) (sym e) (record {
  sessions = length-set marks s mark ∙ below.sessions;
  low = λ t. elim (cases_eq t s) [
    | inl same ↦ subst (λ q. (mark_at raised q).gone ≤ mark_of parts q) (sym same) (omega (arith, full))
    | inr other ↦ omega (arith, ap (λ (m : SessionMark). m.gone) (there t other), below.low t)
  ];
  gone = λ t low. elim (cases_eq t s) [
    | inl same ↦ subst (λ q. (mark_at raised q).gone ≡ mark_of parts q) (sym same) full
    | inr other ↦ ap (λ (m : SessionMark). m.gone) (there t other) ∙ below.gone t (omega (arith, low, other))
  ];
  received = λ t. elim (cases_eq t s) [
    | inl same ↦ subst (λ q. (mark_at raised q).received ≡ received_count parts q) (sym same) (ap (λ (m : SessionMark). m.received) here ∙ below.received s)
    | inr other ↦ ap (λ (m : SessionMark). m.received) (there t other) ∙ below.received t
  ];
  closed = λ t. elim (cases_eq t s) [
    | inl same ↦ subst (λ q. (mark_at raised q).closed ≡ get_or parts.closed q false) (sym same) (ap (λ (m : SessionMark). m.closed) here ∙ below.closed s)
    | inr other ↦ ap (λ (m : SessionMark). m.closed) (there t other) ∙ below.closed t
  ];
})
  where
    mark : SessionMark
    mark = record (mark_at marks s) { gone = (mark_at marks s).gone + more }

    raised : List SessionMark
    raised = slice_set marks s mark

    here : mark_at raised s ≡ mark
    here = get_or-set_same marks s mark fresh (omega (arith, within, below.sessions))

    there : (t : ℕ) → t ≢ s → mark_at raised t ≡ mark_at marks t
    there t other = get_or-set_other marks s t mark fresh other

    full : (mark_at raised s).gone ≡ mark_of parts s
    full = omega (arith, ap (λ (m : SessionMark). m.gone) here, is, below.low s)

-- and all of them
pub raised_all : (marks : List SessionMark) (parts : Parts) (count : ℕ) → IsGood parts → count ≡ length parts.remain → AreRaisedBelow marks parts count → AreMarksOf marks parts
raised_all marks parts count good e below = record {
  sessions = below.sessions;
  gone = λ s. elim (cases_lt s count) [
    | inl low ↦ below.gone s low
    | inr high ↦ omega (arith, below.low s, past_mark parts s good (omega (arith, high, e)))
  ];
  received = below.received;
  closed = below.closed;
}
