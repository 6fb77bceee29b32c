-- Parts with a fragment keep the rules.
use Rattle.std.proofs.Common.{◌≡◌, ℕ, ◌+◌, ◌^◌, ◌<◌, ◌≤◌, true, List, [], ◌++◌, length, Some, sym, ap, ◌∙◌, subst, inl, inr, arith, length-append, length-set, get_or-set_same, get_or-set_other}
use Rattle.std.specs.Prelude.{slice_get}
use Rattle.std.proofs.lemmas.Bool.{cases_eq}
use Rattle.std.proofs.lemmas.List.Elements.{All-get_or}
use Rattle.std.proofs.lemmas.List.Sums.{sum_by-set}
use Rattle.std.proofs.lemmas.Option.{slice_get_within, get_or_from_slice_get}
use Rattle.list_lemmas.proofs.Places.{place_in}
use Rattle.txn.specs.declared.transactions.Txn.{Txn}
use Rattle.txn.specs.declared.transactions.Fragment.{Fragment}
use Rattle.txn.specs.History.{session_of}
use Rattle.txn.specs.Transactions.{IsWellFormed, IsShort}
use Rattle.order_check.specs.declared.remainder.Parts.{Parts}
use Rattle.order_check.specs.Based.{mark_of, remaining_of, received_count}
use Rattle.order_check.specs.Good.{IsGood}
use Rattle.order_check.specs.StandsFor.{parts_with, parts_closed, with_fragment}
use Rattle.round_state.specs.Steps.{IsAdmitted}

-- What holds of each transaction of the parts, and of each of the fragment at its place, holds of each with the fragment.
each_with : (P : ℕ → ℕ → Txn → Type 0) (parts : Parts) (f : Fragment) →
    f.session < length parts.remain →
    ((s n : ℕ) (txn : Txn) → slice_get (remaining_of parts s) n ≡ Some txn → P s n txn) →
    ((n : ℕ) (txn : Txn) → slice_get f.txns n ≡ Some txn → P f.session (length (remaining_of parts f.session) + n) txn) →
    (s n : ℕ) (txn : Txn) → slice_get (remaining_of (parts_with parts f) s) n ≡ Some txn → P s n txn
each_with P parts f within old new s n txn h = elim (cases_eq s f.session) [
  | inl same ↦
      let at : slice_get (session_of parts.remain f.session ++ f.txns) n ≡ Some txn =
      ap (λ (txns : List Txn). slice_get txns n) (sym (get_or-set_same parts.remain f.session (session_of parts.remain f.session ++ f.txns) [] within)) ∙ ap (λ (t : ℕ). slice_get (remaining_of (parts_with parts f) t) n) (sym same) ∙ h in
      subst (λ (t : ℕ). P t n txn) (sym same) (elim (place_in (session_of parts.remain f.session) f.txns n txn at) [
        | inl a ↦ old f.session n txn a
        | inr b ↦ subst (λ (m : ℕ). P f.session m txn) (sym b.1) (new b.0 txn b.2)
      ])
  | inr other ↦ old s n txn (ap (λ (txns : List Txn). slice_get txns n) (sym (get_or-set_other parts.remain f.session s (session_of parts.remain f.session ++ f.txns) [] other)) ∙ h)
]

numbers_with : (parts : Parts) (f : Fragment) → f.session < length parts.remain → f.first ≡ received_count parts f.session → f.first + length f.txns ≤ 2 ^ 48 → ((s : ℕ) → received_count parts s ≤ 2 ^ 48) → (s : ℕ) → received_count (parts_with parts f) s ≤ 2 ^ 48
numbers_with parts f within next room old s = elim (cases_eq s f.session) [
  | inl same ↦
      let long = ap (λ (txns : List Txn). length txns) (get_or-set_same parts.remain f.session (session_of parts.remain f.session ++ f.txns) [] within) in
      let more = length-append (session_of parts.remain f.session) f.txns in
      let here : received_count (parts_with parts f) f.session ≤ 2 ^ 48 = omega (arith, long, more, next, room) in
      subst (λ (t : ℕ). received_count (parts_with parts f) t ≤ 2 ^ 48) (sym same) here
  | inr other ↦
      let same = ap (λ (txns : List Txn). length txns) (get_or-set_other parts.remain f.session s (session_of parts.remain f.session ++ f.txns) [] other) in
      omega (arith, same, old s)
]

-- good parts stay good with a fragment that is admitted
pub good_with : (parts : Parts) (f : Fragment) → IsGood parts → IsAdmitted parts f → IsGood (parts_with parts f)
good_with parts f good fits =
    let within : f.session < length parts.remain = fits.next.session.0 in
    let before = session_of parts.remain f.session in
    let size : length (with_fragment parts.remain f) ≡ length parts.remain = length-set parts.remain f.session (before ++ f.txns) in
    let sum = sum_by-set length parts.remain f.session (before ++ f.txns) [] within in
    let more = length-append before f.txns in
    record {
      some_sessions = omega (arith, size, good.some_sessions);
      few_sessions = omega (arith, size, good.few_sessions);
      low_sessions = good.low_sessions;
      marks = good.marks ∙ sym size;
      closed = good.closed ∙ sym size;
      some_limit = good.some_limit;
      low_limit = good.low_limit;
      room = omega (arith, sum, more, fits.room);
      numbers = numbers_with parts f within fits.next.next fits.well_formed.lengths.numbers good.numbers;
      well_formed = each_with (λ s n txn. IsWellFormed parts.most_sessions (record { session = s; number = mark_of parts s + n }) txn) parts f within good.well_formed
          (λ n txn h.
          let at : f.first + n ≡ mark_of parts f.session + (length before + n) = omega (arith, fits.next.next) in
          subst (λ (m : ℕ). IsWellFormed parts.most_sessions (record { session = f.session; number = m }) txn) at (fits.well_formed.txns n txn (slice_get_within f.txns n txn h) h));
      short = each_with (λ s n txn. IsShort txn) parts f within good.short (λ n txn h.
          subst IsShort (get_or_from_slice_get f.txns n txn txn h) (All-get_or IsShort f.txns n txn (slice_get_within f.txns n txn h) fits.well_formed.lengths.each));
      base = good.base;
    }

-- and with a session closed
pub good_closed : (parts : Parts) (s : ℕ) → IsGood parts → IsGood (parts_closed parts s)
good_closed parts s good = record {
  some_sessions = good.some_sessions;
  few_sessions = good.few_sessions;
  low_sessions = good.low_sessions;
  marks = good.marks;
  closed = length-set parts.closed s true ∙ good.closed;
  some_limit = good.some_limit;
  low_limit = good.low_limit;
  room = good.room;
  numbers = good.numbers;
  well_formed = good.well_formed;
  short = good.short;
  base = good.base;
}
