-- What remains behind what is gone, when nothing is gone yet and when something arrives.
use Rattle.std.proofs.Common.{◌≡◌, ℕ, zero, suc, ◌+◌, ◌<◌, ◌≤◌, ◌⊎◌, List, [], ◌∷◌, ◌++◌, length, take, drop, refl, sym, ap, subst, ◌∙◌, inl, inr, ⊎_elim, arith, length-append, length-set, append-nil, nat_cmp}
use Rattle.std.specs.Prelude.{All, slice_set}
use Rattle.std.specs.List.{slice_get}
use Rattle.std.specs.FinMap.{get, get-empty}
use Rattle.std.proofs.lemmas.Bool.{cases_lt, cases_eq}
use Rattle.std.proofs.lemmas.List.{length_push, take-append-le}
use Rattle.std.proofs.lemmas.List.Elements.{All-weaker}
use Rattle.std.proofs.lemmas.Option.{none-some}
use Rattle.list_lemmas.proofs.Places.{IsAt}
use Rattle.txn.specs.declared.transactions.TxnId.{TxnId}
use Rattle.txn.specs.declared.transactions.Source.{Source}
use Rattle.txn.specs.declared.transactions.Source.TheVariants.{Init, By}
use Rattle.txn.specs.declared.transactions.Txn.{Txn}
use Rattle.txn.specs.declared.transactions.Fragment.{Fragment}
use Rattle.txn.specs.History.{History, ids_from, session_of, txn_at, IsLastWriter}
use Rattle.order_check.specs.declared.remainder.Parts.{Parts}
use Rattle.order_check.specs.Based.{last_gone, mark_of, remaining_of}
use Rattle.order_check.specs.StandsFor.{More, Joins, Returns, history_after, parts_after, with_fragment, with_session}
use Rattle.order_check.proofs.Joined.{marks_more, session_here, session_old}
use Rattle.order_check.proofs.KeptFronts.{with_other, with_same}
use Rattle.gone_orders.specs.Behind.{IsMetForGood, RemainsBehind}
use Rattle.gone_orders.specs.Laws.{ArrivalsStayBehind, BarePartsStayBehind, ContentStaysBehind}
use Rattle.gone_orders.proofs.Lists.{AgreeOn, agree_back, at_seam, drop_seam, last_moved, none_moved}
use Rattle.gone_orders.proofs.Looks.{is_gone}

-- ---- nothing is gone

none_last : (history : History) (key : ℕ) (writer : TxnId) → IsLastWriter (txn_at history) key [] writer → ⊥
none_last history key writer ([], newer, e, writes, none) = absurd cc
none_last history key writer (x ∷ older, newer, e, writes, none) = absurd cc

no_first : (front back : List TxnId) (id : TxnId) → [] ≡ front ++ id ∷ back → ⊥
no_first [] back id e = absurd cc
no_first (x ∷ front) back id e = absurd cc

pub bare_behind : BarePartsStayBehind
bare_behind parts bare = record {
  sessions = refl;
  marks = λ s. let mark = bare.marks s in omega (arith, mark);
  gone = λ s. ap (λ k. ids_from s 0 (take k (session_of parts.remain s))) (sym (bare.marks s));
  remain = λ s. ap (λ k. drop k (session_of parts.remain s)) (sym (bare.marks s));
  met = λ front back id e. absurd (no_first front back id e);
  last = λ key writer. (
    λ is. absurd (none-some writer (sym (ap (λ last. get last key) bare.last ∙ get-empty nat_cmp key) ∙ is)),
    λ last. absurd (none_last parts.remain key writer last),
  );
}

-- ---- other flags and bounds

pub content_behind : ContentStaysBehind
content_behind past one other history same behind = record {
  sessions = behind.sessions ∙ ap length same.remain;
  marks = λ s. subst (λ k. k ≤ length (session_of history s)) (marks s) (behind.marks s);
  gone = λ s. behind.gone s ∙ ap (λ k. ids_from s 0 (take k (session_of history s))) (marks s);
  remain = λ s. ap (λ (remain : History). session_of remain s) (sym same.remain) ∙ behind.remain s ∙ ap (λ k. drop k (session_of history s)) (marks s);
  met = behind.met;
  last = λ key writer. (λ is. (behind.last key writer).0 (last_same key ∙ is), λ last. sym (last_same key) ∙ (behind.last key writer).1 last);
}
  where
    marks : (s : ℕ) → mark_of one s ≡ mark_of other s
    marks s = ap (λ (base : Rattle.order_check.specs.declared.remainder.Base.Base). Rattle.std.specs.Prelude.slice_index base.marks s) same.base

    last_same : (key : ℕ) → last_gone one key ≡ last_gone other key
    last_same key = ap (λ (base : Rattle.order_check.specs.declared.remainder.Base.Base). get base.last key) same.base

-- ---- what arrives

-- each session of the two goes on by the same
pub record GoOn (old new : Parts) (before after : History) : Type 0 where
  pub history : length before ≡ length old.remain → length after ≡ length new.remain
  pub marks : (s : ℕ) → mark_of new s ≡ mark_of old s
  pub last : new.base.last ≡ old.base.last
  pub more : (s : ℕ) → (later : List Txn) × (session_of after s ≡ session_of before s ++ later) × (remaining_of new s ≡ remaining_of old s ++ later)

left_place : {X : Type 0} (xs ys : List X) (k : ℕ) → k < length xs → slice_get (xs ++ ys) k ≡ slice_get xs k
left_place [] ys k within = absurd (omega (arith, within))
left_place (x ∷ xs) ys zero within = refl
left_place (x ∷ xs) ys (suc k) within = left_place xs ys k (omega (arith, within))

-- what is gone is looked up as before
agree_gone : (past : List TxnId) (old new : Parts) (before after : History) → RemainsBehind past old before → GoOn old new before after → AgreeOn (txn_at before) (txn_at after) past
agree_gone past old new before after behind on id here =
    let gone = is_gone past old before id behind here in
    let m = behind.marks id.session in
    let more = on.more id.session in
    sym (ap (λ txns. slice_get txns id.number) more.1 ∙ left_place (session_of before id.session) more.0 id.number (omega (arith, gone, m)))

met_on : (before after : History) (front : List TxnId) (key : ℕ) (source : Source) → AgreeOn (txn_at before) (txn_at after) front → IsMetForGood before front key source → IsMetForGood after front key source
met_on before after front key Init agree met = none_moved (txn_at before) (txn_at after) key front agree met
met_on before after front key (By writer) agree met = last_moved (txn_at before) (txn_at after) key front writer agree met

pub go_on : (past : List TxnId) (old new : Parts) (before after : History) → RemainsBehind past old before → GoOn old new before after → RemainsBehind past new after
go_on past old new before after behind on = record {
  sessions = on.history behind.sessions;
  marks = λ s.
      let more = on.more s in
      let long : length (session_of after s) ≡ length (session_of before s) + length more.0 = ap length more.1 ∙ length-append (session_of before s) more.0 in
      let m = behind.marks s in
      let same = on.marks s in
      omega (arith, long, m, same);
  gone = λ s.
      let more = on.more s in
      behind.gone s
      ∙ ap (ids_from s 0) (sym (take-append-le (mark_of old s) (session_of before s) more.0 (behind.marks s)) ∙ ap (take (mark_of old s)) (sym more.1))
      ∙ ap (λ k. ids_from s 0 (take k (session_of after s))) (sym (on.marks s));
  remain = λ s.
      let more = on.more s in
      more.2
      ∙ ap (λ txns. txns ++ more.0) (behind.remain s)
      ∙ sym (drop_seam (mark_of old s) (session_of before s) more.0 (behind.marks s))
      ∙ ap (drop (mark_of old s)) (sym more.1)
      ∙ ap (λ k. drop k (session_of after s)) (sym (on.marks s));
  met = λ front back id split txn at.
      let here : IsAt past id = subst (λ ids. IsAt ids id) (sym split) (at_seam front back id) in
      let first : AgreeOn (txn_at before) (txn_at after) front = λ x in_front. agree x (subst (λ ids. IsAt ids x) (sym split) (ahead front (id ∷ back) x in_front)) in
      All-weaker (λ read. IsMetForGood before front read.0 read.1) (λ read. IsMetForGood after front read.0 read.1) (λ read. met_on before after front read.0 read.1 first) txn.reads (behind.met front back id split txn (agree id here ∙ at));
  last = λ key writer. (
    λ is. last_moved (txn_at before) (txn_at after) key past writer agree ((behind.last key writer).0 (sym (ap (λ last. get last key) on.last) ∙ is)),
    λ last. ap (λ last. get last key) on.last ∙ (behind.last key writer).1 (last_moved (txn_at after) (txn_at before) key past writer (agree_back (txn_at before) (txn_at after) past agree) last),
  );
}
  where
    agree : AgreeOn (txn_at before) (txn_at after) past
    agree = agree_gone past old new before after behind on

    ahead : (xs ys : List TxnId) (x : TxnId) → IsAt xs x → IsAt (xs ++ ys) x
    ahead xs ys x (k, here) = (k, Rattle.list_lemmas.proofs.Places.place_left xs ys k x here)

-- a list isn't changed past its end
set_past : {X : Type 0} (xs : List X) (n : ℕ) (x : X) → length xs ≤ n → slice_set xs n x ≡ xs
set_past [] n x past = refl
set_past (y ∷ ys) zero x past = absurd (omega (arith, past))
set_past (y ∷ ys) (suc n) x past = ap (λ zs. y ∷ zs) (set_past ys n x (omega (arith, past)))

-- a fragment puts the same at the end of its session in both
with_more : (remain history : History) (fragment : Fragment) (s : ℕ) → length history ≡ length remain → (later : List Txn) × (session_of (with_fragment history fragment) s ≡ session_of history s ++ later) × (session_of (with_fragment remain fragment) s ≡ session_of remain s ++ later)
with_more remain history fragment s same = ⊎_elim inside outside (cases_lt fragment.session (length remain))
  where
    inside : fragment.session < length remain → (later : List Txn) × (session_of (with_fragment history fragment) s ≡ session_of history s ++ later) × (session_of (with_fragment remain fragment) s ≡ session_of remain s ++ later)
    inside within = by_case (cases_eq s fragment.session)
      where
        by_case : (s ≡ fragment.session) ⊎ (¬ (s ≡ fragment.session)) → (later : List Txn) × (session_of (with_fragment history fragment) s ≡ session_of history s ++ later) × (session_of (with_fragment remain fragment) s ≡ session_of remain s ++ later)
        by_case (inl here) = (
          fragment.txns,
          subst (λ t. session_of (with_fragment history fragment) t ≡ session_of history t ++ fragment.txns) (sym here) (with_same history fragment (omega (arith, within, same))),
          subst (λ t. session_of (with_fragment remain fragment) t ≡ session_of remain t ++ fragment.txns) (sym here) (with_same remain fragment within),
        )
        by_case (inr apart) = ([], with_other history fragment s apart ∙ sym (append-nil (session_of history s)), with_other remain fragment s apart ∙ sym (append-nil (session_of remain s)))

    outside : length remain ≤ fragment.session → (later : List Txn) × (session_of (with_fragment history fragment) s ≡ session_of history s ++ later) × (session_of (with_fragment remain fragment) s ≡ session_of remain s ++ later)
    outside past = (
      [],
      ap (λ (h : History). session_of h s) (set_past history fragment.session (session_of history fragment.session ++ fragment.txns) (omega (arith, past, same))) ∙ sym (append-nil (session_of history s)),
      ap (λ (h : History). session_of h s) (set_past remain fragment.session (session_of remain fragment.session ++ fragment.txns) past) ∙ sym (append-nil (session_of remain s)),
    )

joined_more : (remain history : History) (fragment : Fragment) (s : ℕ) → length history ≡ length remain → (later : List Txn) × (session_of (with_session history fragment) s ≡ session_of history s ++ later) × (session_of (with_session remain fragment) s ≡ session_of remain s ++ later)
joined_more remain history fragment s same = by_case (cases_eq s (length remain))
  where
    by_case : (s ≡ length remain) ⊎ (¬ (s ≡ length remain)) → (later : List Txn) × (session_of (with_session history fragment) s ≡ session_of history s ++ later) × (session_of (with_session remain fragment) s ≡ session_of remain s ++ later)
    by_case (inl here) = (fragment.txns, session_here history fragment s (here ∙ sym same), session_here remain fragment s here)
    by_case (inr apart) = ([], session_old history fragment s (λ e. apart (e ∙ same)) ∙ sym (append-nil (session_of history s)), session_old remain fragment s apart ∙ sym (append-nil (session_of remain s)))

pub arrivals_behind : ArrivalsStayBehind
arrivals_behind past parts history (More fragment) behind = go_on past parts (parts_after parts (More fragment)) history (history_after history (More fragment)) behind (record {
  history = λ same. length-set history fragment.session _ ∙ same ∙ sym (length-set parts.remain fragment.session _);
  marks = λ s. refl;
  last = refl;
  more = λ s. with_more parts.remain history fragment s behind.sessions;
})
arrivals_behind past parts history (Joins fragment) behind = go_on past parts (parts_after parts (Joins fragment)) history (history_after history (Joins fragment)) behind (record {
  history = λ same. length_push history fragment.txns ∙ ap (λ n. n + 1) same ∙ sym (length_push parts.remain fragment.txns);
  marks = λ s. marks_more parts.base.marks s;
  last = refl;
  more = λ s. joined_more parts.remain history fragment s behind.sessions;
})
arrivals_behind past parts history (Returns fragment) behind = go_on past parts (parts_after parts (Returns fragment)) history (history_after history (Returns fragment)) behind (record {
  history = λ same. length-set history fragment.session _ ∙ same ∙ sym (length-set parts.remain fragment.session _);
  marks = λ s. refl;
  last = refl;
  more = λ s. with_more parts.remain history fragment s behind.sessions;
})
