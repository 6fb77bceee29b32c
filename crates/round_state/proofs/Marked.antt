-- The marks of an engine tell of its parts, and keep telling of them.
use Rattle.std.proofs.Common.{◌≡◌, ◌≢◌, ℕ, ◌+◌, ◌<◌, Bool, true, false, List, [], ◌++◌, length, sym, ap, ◌∙◌, subst, inl, inr, arith, length-append, length-set, get_or, get_or-set_same, get_or-set_other}
use Rattle.std.specs.Prelude.{slice_set}
use Rattle.std.proofs.lemmas.Bool.{cases_eq, false≢true}
use Rattle.std.proofs.lemmas.Option.{get_or_from_slice_get}
use Rattle.txn.specs.declared.transactions.Txn.{Txn}
use Rattle.txn.specs.declared.transactions.Fragment.{Fragment}
use Rattle.txn.specs.History.{session_of}
use Rattle.session_marks.specs.declared.marks.SessionMark.{SessionMark}
use Rattle.session_marks.specs.Marks.{fresh, mark_at, IsOpen, with_received, with_closed, with_flag}
use Rattle.order_check.specs.declared.remainder.Parts.{Parts}
use Rattle.order_check.specs.Based.{mark_of, received_count}
use Rattle.order_check.specs.Good.{IsGood}
use Rattle.order_check.specs.StandsFor.{IsOpenSession, parts_with, parts_closed}
use Rattle.round_state.specs.Tracked.{AreMarksOf}

-- what is open and closed by the marks is so in the parts
pub open_session : (marks : List SessionMark) (parts : Parts) (s : ℕ) → AreMarksOf marks parts → IsOpen marks s → IsOpenSession parts s
open_session marks parts s are open_mark = (
  omega (arith, open_mark.0, are.sessions),
  λ closed. false≢true (sym open_mark.1 ∙ are.closed s ∙ get_or_from_slice_get parts.closed s true false closed),
)

-- the marks after a fragment are those of the parts with it
pub marks_with : (marks : List SessionMark) (parts : Parts) (f : Fragment) → AreMarksOf marks parts → f.session < length parts.remain → AreMarksOf (with_received marks f.session (length f.txns)) (parts_with parts f)
marks_with marks parts f are within = record {
  sessions = length-set marks f.session new ∙ are.sessions ∙ sym (length-set parts.remain f.session txns);
  gone = λ s. elim (cases_eq s f.session) [
    | inl same ↦ subst (λ t. (mark_at marks_new t).gone ≡ mark_of parts t) (sym same) (ap (λ (m : SessionMark). m.gone) here ∙ are.gone f.session)
    | inr other ↦ ap (λ (m : SessionMark). m.gone) (there s other) ∙ are.gone s
  ];
  received = λ s. elim (cases_eq s f.session) [
    | inl same ↦
        let long = ap (λ (ts : List Txn). length ts) (get_or-set_same parts.remain f.session txns [] within) in
        let more = length-append (session_of parts.remain f.session) f.txns in
        let at : (mark_at marks_new f.session).received ≡ received_count (parts_with parts f) f.session = omega (arith, ap (λ (m : SessionMark). m.received) here, are.received f.session, long, more) in
        subst (λ t. (mark_at marks_new t).received ≡ received_count (parts_with parts f) t) (sym same) at
    | inr other ↦
        let long = ap (λ (ts : List Txn). length ts) (get_or-set_other parts.remain f.session s txns [] other) in
        omega (arith, ap (λ (m : SessionMark). m.received) (there s other), are.received s, long)
  ];
  closed = λ s. elim (cases_eq s f.session) [
    | inl same ↦ subst (λ t. (mark_at marks_new t).closed ≡ get_or parts.closed t false) (sym same) (ap (λ (m : SessionMark). m.closed) here ∙ are.closed f.session)
    | inr other ↦ ap (λ (m : SessionMark). m.closed) (there s other) ∙ are.closed s
  ];
}
  where
    txns : List Txn
    txns = session_of parts.remain f.session ++ f.txns

    new : SessionMark
    new = record (mark_at marks f.session) { received = (mark_at marks f.session).received + length f.txns }

    marks_new : List SessionMark
    marks_new = slice_set marks f.session new

    here : mark_at marks_new f.session ≡ new
    here = get_or-set_same marks f.session new fresh (omega (arith, within, are.sessions))

    there : (s : ℕ) → s ≢ f.session → mark_at marks_new s ≡ mark_at marks s
    there s other = get_or-set_other marks f.session s new fresh other

-- the marks with a session closed, or open, are those of the parts with it so
pub marks_flagged : (marks : List SessionMark) (parts : Parts) (s : ℕ) (flag : Bool) → AreMarksOf marks parts → IsGood parts → s < length parts.remain → AreMarksOf (with_flag marks s flag) (record parts { closed = slice_set parts.closed s flag })
marks_flagged marks parts s flag are good within = record {
  sessions = length-set marks s new ∙ are.sessions;
  gone = λ t. elim (cases_eq t s) [
    | inl same ↦ subst (λ q. (mark_at marks_new q).gone ≡ mark_of parts q) (sym same) (ap (λ (m : SessionMark). m.gone) here ∙ are.gone s)
    | inr other ↦ ap (λ (m : SessionMark). m.gone) (there t other) ∙ are.gone t
  ];
  received = λ t. elim (cases_eq t s) [
    | inl same ↦ subst (λ q. (mark_at marks_new q).received ≡ received_count parts q) (sym same) (ap (λ (m : SessionMark). m.received) here ∙ are.received s)
    | inr other ↦ ap (λ (m : SessionMark). m.received) (there t other) ∙ are.received t
  ];
  closed = λ t. elim (cases_eq t s) [
    | inl same ↦
        let is : get_or (slice_set parts.closed s flag) s false ≡ flag = get_or-set_same parts.closed s flag false (omega (arith, within, good.closed)) in
        subst (λ q. (mark_at marks_new q).closed ≡ get_or (slice_set parts.closed s flag) q false) (sym same) (ap (λ (m : SessionMark). m.closed) here ∙ sym is)
    | inr other ↦ ap (λ (m : SessionMark). m.closed) (there t other) ∙ are.closed t ∙ sym (get_or-set_other parts.closed s t flag false other)
  ];
}
  where
    new : SessionMark
    new = record (mark_at marks s) { closed = flag }

    marks_new : List SessionMark
    marks_new = slice_set marks s new

    here : mark_at marks_new s ≡ new
    here = get_or-set_same marks s new fresh (omega (arith, within, are.sessions))

    there : (t : ℕ) → t ≢ s → mark_at marks_new t ≡ mark_at marks t
    there t other = get_or-set_other marks s t new fresh other

pub marks_closed : (marks : List SessionMark) (parts : Parts) (s : ℕ) → AreMarksOf marks parts → IsGood parts → s < length parts.remain → AreMarksOf (with_closed marks s) (parts_closed parts s)
marks_closed marks parts s are good within = marks_flagged marks parts s true are good within
