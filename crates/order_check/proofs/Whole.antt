-- Parts of which nothing is gone, and the whole history that they have.
use Rattle.std.proofs.Common.{◌≡◌, ℕ, ◌<◌, ◌⊎◌, inl, inr, ◌++◌, ◌↔◌, List, [], ◌∷◌, length, None, IsSome, ltb, slice_get, refl, sym, subst, ap, ◌∙◌, arith, nat_cmp, length-set, length-append, get_or-set_same, get_or-set_other, ◌+◌, ⊎_elim}
use Rattle.std.proofs.Math.Nat.{sub-zero}
use Rattle.std.proofs.lemmas.Bool.{cond-false, le-ltb, cases_eq}
use Rattle.std.proofs.lemmas.List.Elements.{All-weaker}
use Rattle.std.specs.FinMap.{get, get-empty}
use Rattle.std.proofs.lemmas.List.{length_push}
use Rattle.list_lemmas.proofs.Places.{some_within, within_some}
use Rattle.txn.specs.declared.transactions.TxnId.{TxnId}
use Rattle.txn.specs.declared.transactions.Source.{Source}
use Rattle.txn.specs.declared.transactions.Source.TheVariants.{Init, By}
use Rattle.txn.specs.declared.transactions.Fragment.{Fragment}
use Rattle.txn.specs.History.{History, Received, Reads, session_of, txn_at, ids_from, NoneWrites, IsLastWriter}
use Rattle.order_check.specs.declared.remainder.Parts.{Parts}
use Rattle.order_check.specs.declared.remainder.Kind.{Kind}
use Rattle.order_check.specs.declared.remainder.Kind.TheVariants.{Serial, Pending, Violated, Spent}
use Rattle.order_check.specs.Based.{mark_of, received_count, remaining_of, remaining_at, last_gone, IsReceived, HasPending}
use Rattle.order_check.specs.NoBase.{HasNoBase}
use Rattle.order_check.specs.Explains.{Explains, Meets}
use Rattle.order_check.specs.Verdict.{HasOrder, IsVerdict}
use Rattle.order_check.specs.Whole.{MeetsWhole, ExplainsWhole, HasOrderWhole, HasPendingWhole, IsVerdictWhole}
use Rattle.order_check.specs.StandsFor.{Arrival, More, Joins, Returns, StandsFor, parts_after, parts_joined, parts_returned, parts_with, parts_then, history_after, history_then, IsJoiningFragment, IsNextFragment, IsReturningFragment, with_fragment, with_session}
use Rattle.order_check.proofs.Joined.{marks_more, session_here, session_old}

-- what remains is what the whole history has
at_same : (parts : Parts) → HasNoBase parts → (id : TxnId) → remaining_at parts id ≡ txn_at parts.remain id
at_same parts bare id = rw (bare.marks id.session, sub-zero) (cond-false (ltb id.number 0) None (slice_get (remaining_of parts id.session) id.number) (le-ltb id.number 0 (omega arith)))

pub look_ups_same : (parts : Parts) → HasNoBase parts → remaining_at parts ≡ txn_at parts.remain
look_ups_same parts bare = λ i id. at_same parts bare id i

meets_whole : (parts : Parts) → HasNoBase parts → (front : List TxnId) (key : ℕ) (source : Source) → Meets parts front key source ↔ MeetsWhole parts.remain front key source
meets_whole parts bare front key Init =
    let e = look_ups_same parts bare in
    let none : last_gone parts key ≡ None = ap (λ last. get last key) bare.last ∙ get-empty nat_cmp key in
    (λ h. subst (λ at. NoneWrites at key front) e h.1, λ h. (none, subst (λ at. NoneWrites at key front) (sym e) h))
meets_whole parts bare front key (By writer) =
    let e = look_ups_same parts bare in
    let mark = bare.marks writer.session in (
      λ h received. subst (λ at. IsLastWriter at key front writer) e (h.remaining (subst (λ at. IsSome (at writer)) (sym e) received)),
      λ h. record {
        gone = λ gone. absurd (omega arith);
        remaining = λ remains. subst (λ at. IsLastWriter at key front writer) (sym e) (h (subst (λ at. IsSome (at writer)) e remains));
      },
    )

pub explains_whole : (parts : Parts) (order : List TxnId) → HasNoBase parts → Explains parts order ↔ ExplainsWhole parts.remain order
explains_whole parts order bare =
    let e = look_ups_same parts bare in (
      λ h. record {
        sessions = λ s. h.sessions s ∙ ap (λ mark. ids_from s mark (remaining_of parts s)) (bare.marks s);
        reads = λ front back id is txn at. All-weaker (λ read. Meets parts front read.0 read.1) (λ read. MeetsWhole parts.remain front read.0 read.1) (λ read. (meets_whole parts bare front read.0 read.1).0) txn.reads (h.reads front back id is txn (at_same parts bare id ∙ at));
      },
      λ h. record {
        sessions = λ s. h.sessions s ∙ ap (λ mark. ids_from s mark (remaining_of parts s)) (sym (bare.marks s));
        reads = λ front back id is txn at. All-weaker (λ read. MeetsWhole parts.remain front read.0 read.1) (λ read. Meets parts front read.0 read.1) (λ read. (meets_whole parts bare front read.0 read.1).1) txn.reads (h.reads front back id is txn (sym (at_same parts bare id) ∙ at));
      },
    )

received_whole : (parts : Parts) → HasNoBase parts → (id : TxnId) → IsReceived parts id ↔ Received parts.remain id
received_whole parts bare id =
    let mark = bare.marks id.session in (
      λ received. within_some (session_of parts.remain id.session) id.number (omega arith),
      λ some. let within = some_within (session_of parts.remain id.session) id.number some in omega arith,
    )

pub pending_whole : (parts : Parts) → HasNoBase parts → HasPending parts ↔ HasPendingWhole parts.remain
pending_whole parts bare =
    let e = look_ups_same parts bare in (
      λ h. (h.0, h.1, h.2, subst (λ at. Reads at h.0 h.2 (By h.1)) e h.3, λ received. h.4 ((received_whole parts bare h.1).1 received)),
      λ h. (h.0, h.1, h.2, subst (λ at. Reads at h.0 h.2 (By h.1)) (sym e) h.3, λ received. h.4 ((received_whole parts bare h.1).0 received)),
    )

pub has_order_whole : (parts : Parts) → HasNoBase parts → HasOrder parts ↔ HasOrderWhole parts.remain
has_order_whole parts bare =
    (λ h. (h.0, (explains_whole parts h.0 bare).0 h.1), λ h. (h.0, (explains_whole parts h.0 bare).1 h.1))

pub verdict_whole : (parts : Parts) (kind : Kind) → HasNoBase parts → IsVerdictWhole parts.remain kind ↔ IsVerdict parts kind
verdict_whole parts Violated bare =
    let order = has_order_whole parts bare in
    (λ none some. none (order.0 some), λ none some. none (order.1 some))
verdict_whole parts Pending bare =
    let order = has_order_whole parts bare in
    let pending = pending_whole parts bare in
    (λ h. (order.1 h.0, pending.1 h.1), λ h. (order.0 h.0, pending.0 h.1))
verdict_whole parts Serial bare =
    let order = has_order_whole parts bare in
    let pending = pending_whole parts bare in
    (λ h. (order.1 h.0, λ some. h.1 (pending.0 some)), λ h. (order.0 h.0, λ some. h.1 (pending.1 some)))
verdict_whole parts Spent bare = (λ h. h, λ h. h)

-- what comes takes nothing away
bare_after : (parts : Parts) (arrival : Arrival) → HasNoBase parts → HasNoBase (parts_after parts arrival)
bare_after parts (More fragment) bare = record { marks = bare.marks; last = bare.last }
bare_after parts (Joins fragment) bare = record { marks = λ s. marks_more parts.base.marks s ∙ bare.marks s; last = bare.last }
bare_after parts (Returns fragment) bare = record { marks = bare.marks; last = bare.last }

remain_after : (parts : Parts) (arrival : Arrival) → history_after parts.remain arrival ≡ (parts_after parts arrival).remain
remain_after parts (More fragment) = refl
remain_after parts (Joins fragment) = refl
remain_after parts (Returns fragment) = refl

future_whole : (parts : Parts) → HasNoBase parts → (more : List Arrival) (kind : Kind) → IsVerdictWhole (history_then parts.remain more) kind ↔ IsVerdict (parts_then parts more) kind
future_whole parts bare [] kind = verdict_whole parts kind bare
future_whole parts bare (arrival ∷ more) kind =
    let rest = future_whole (parts_after parts arrival) (bare_after parts arrival bare) more kind in
    subst (λ (history : History). IsVerdictWhole (history_then history more) kind ↔ IsVerdict (parts_then (parts_after parts arrival) more) kind) (sym (remain_after parts arrival)) rest

pub stands_bare : (parts : Parts) → HasNoBase parts → StandsFor parts parts.remain
stands_bare parts bare = record {
  sessions = refl;
  received = λ s. let mark = bare.marks s in omega arith;
  future = λ more _ kind. future_whole parts bare more kind;
}

pub verdict_of_whole : (parts : Parts) (history : History) (kind : Kind) → StandsFor parts history → IsVerdictWhole history kind ↔ IsVerdict parts kind
verdict_of_whole parts history kind stands = stands.future [] tt kind

-- a fragment adds as much to a session of the one as to that of the other
with_received : (mark : ℕ) (remain history : History) (fragment : Fragment) (s : ℕ) → fragment.session < length remain → length history ≡ length remain → mark + length (session_of remain s) ≡ length (session_of history s) → mark + length (session_of (with_fragment remain fragment) s) ≡ length (session_of (with_fragment history fragment) s)
with_received mark remain history fragment s within same received = ⊎_elim at_place elsewhere (cases_eq s fragment.session)
  where
    place : ℕ
    place = fragment.session

    at_place : s ≡ place → mark + length (session_of (with_fragment remain fragment) s) ≡ length (session_of (with_fragment history fragment) s)
    at_place here =
        let before = rw here at received in
        rw (here, get_or-set_same remain place (session_of remain place ++ fragment.txns) [] within, get_or-set_same history place (session_of history place ++ fragment.txns) [] (omega arith), length-append (session_of remain place) fragment.txns, length-append (session_of history place) fragment.txns) (omega arith)

    elsewhere : ¬ (s ≡ place) → mark + length (session_of (with_fragment remain fragment) s) ≡ length (session_of (with_fragment history fragment) s)
    elsewhere apart = rw (get_or-set_other remain place s (session_of remain place ++ fragment.txns) [] apart, get_or-set_other history place s (session_of history place ++ fragment.txns) [] apart) received

pub stands_with : (parts : Parts) (history : History) (fragment : Fragment) → StandsFor parts history → IsNextFragment parts fragment → StandsFor (parts_with parts fragment) (with_fragment history fragment)
stands_with parts history fragment stands next = record {
  sessions = length-set history fragment.session _ ∙ stands.sessions ∙ sym (length-set parts.remain fragment.session _);
  received = λ s. with_received (mark_of parts s) parts.remain history fragment s next.session.0 stands.sessions (stands.received s);
  future = λ more come kind. stands.future (More fragment ∷ more) (next, come) kind;
}

pub stands_returned : (parts : Parts) (history : History) (fragment : Fragment) → StandsFor parts history → IsReturningFragment parts fragment → StandsFor (parts_returned parts fragment) (with_fragment history fragment)
stands_returned parts history fragment stands returns = record {
  sessions = length-set history fragment.session _ ∙ stands.sessions ∙ sym (length-set parts.remain fragment.session _);
  received = λ s. with_received (mark_of parts s) parts.remain history fragment s returns.session stands.sessions (stands.received s);
  future = λ more come kind. stands.future (Returns fragment ∷ more) (returns, come) kind;
}

pub stands_joined : (parts : Parts) (history : History) (fragment : Fragment) → StandsFor parts history → IsJoiningFragment parts fragment → StandsFor (parts_joined parts fragment) (with_session history fragment)
stands_joined parts history fragment stands joins = record {
  sessions = length_push history fragment.txns ∙ ap (λ n. n + 1) stands.sessions ∙ sym (length_push parts.remain fragment.txns);
  received = λ s. by_case s (cases_eq s (length parts.remain));
  future = λ more come kind. stands.future (Joins fragment ∷ more) (joins, come) kind;
}
  where
    new : Parts
    new = parts_joined parts fragment

    by_case : (s : ℕ) → (s ≡ length parts.remain) ⊎ (¬ (s ≡ length parts.remain)) → received_count new s ≡ length (session_of (with_session history fragment) s)
    by_case s (inl here) =
        let mark : mark_of new s ≡ mark_of parts s = marks_more parts.base.marks s in
        let mine : length (remaining_of new s) ≡ length (remaining_of parts s) + length fragment.txns = ap length (session_here parts.remain fragment s here) ∙ length-append (remaining_of parts s) fragment.txns in
        let whole : length (session_of (with_session history fragment) s) ≡ length (session_of history s) + length fragment.txns = ap length (session_here history fragment s (here ∙ sym stands.sessions)) ∙ length-append (session_of history s) fragment.txns in
        omega (arith, mark, mine, whole, stands.received s)
    by_case s (inr apart) =
        let mark : mark_of new s ≡ mark_of parts s = marks_more parts.base.marks s in
        let mine : length (remaining_of new s) ≡ length (remaining_of parts s) = ap length (session_old parts.remain fragment s apart) in
        let whole : length (session_of (with_session history fragment) s) ≡ length (session_of history s) = ap length (session_old history fragment s (λ same. apart (same ∙ stands.sessions))) in
        omega (arith, mark, mine, whole, stands.received s)
