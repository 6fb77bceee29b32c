-- What is looked up of what is gone and of what remains behind it.
use Rattle.std.proofs.Common.{◌≡◌, ℕ, ◌+◌, ◌-◌, ◌<◌, ◌≤◌, ◌⊎◌, List, length, filter, take, Some, refl, sym, ap, subst, ◌∙◌, inl, inr, arith, eq-eqb}
use Rattle.std.specs.Prelude.{Contains}
use Rattle.std.specs.List.{slice_get}
use Rattle.std.proofs.lemmas.Bool.{cases_lt}
use Rattle.std.proofs.lemmas.List.{length-take-le}
use Rattle.list_lemmas.proofs.Places.{IsAt, at_filter, filtered_at}
use Rattle.txn.specs.declared.transactions.TxnId.{TxnId}
use Rattle.txn.specs.declared.transactions.Txn.{Txn}
use Rattle.txn.specs.History.{History, in_session, ids_from, session_of, txn_at, IsLastWriter}
use Rattle.order_check.specs.declared.remainder.Parts.{Parts}
use Rattle.order_check.specs.Based.{HasGoneBase, IsGone, Remains, mark_of, remaining_at, remaining_of}
use Rattle.order_check.specs.Explains.{KeepsSessions}
use Rattle.order_check.proofs.CutCounts.{drop_at}
use Rattle.order_check.proofs.Fenced.{at_place}
use Rattle.order_check.proofs.Received.{gone_past, look_up}
use Rattle.order_check.proofs.SessionIds.{id_at_place, ids_from_at}
use Rattle.gone_orders.specs.Behind.{RemainsBehind}
use Rattle.gone_orders.proofs.Lists.{at_seam}

-- of a session the ids stand in the list of all as in that of the session
pub at_session : (ids : List TxnId) (id : TxnId) → IsAt ids id → IsAt (filter (in_session id.session) ids) id
at_session ids id here = at_filter (in_session id.session) ids id (eq-eqb id.session id.session refl) here

-- what stands in the past is gone
pub is_gone : (past : List TxnId) (parts : Parts) (history : History) (id : TxnId) → RemainsBehind past parts history → IsAt past id → IsGone parts id
is_gone past parts history id behind here = by_place (subst (λ ids. IsAt ids id) (behind.gone id.session) (at_session past id here))
  where
    first : List Txn
    first = take (mark_of parts id.session) (session_of history id.session)

    long : length first ≡ mark_of parts id.session
    long = length-take-le (mark_of parts id.session) (session_of history id.session) (behind.marks id.session)

    by_place : IsAt (ids_from id.session 0 first) id → IsGone parts id
    by_place (k, at) = let place = id_at_place id.session 0 first k id at in omega (arith, place.0, place.2, long)

-- and all that is gone stands there
pub stands_gone : (past : List TxnId) (parts : Parts) (history : History) (id : TxnId) → RemainsBehind past parts history → IsGone parts id → IsAt past id
stands_gone past parts history id behind gone =
    let long : length (take (mark_of parts id.session) (session_of history id.session)) ≡ mark_of parts id.session = length-take-le (mark_of parts id.session) (session_of history id.session) (behind.marks id.session) in
    let within : id.number < length (take (mark_of parts id.session) (session_of history id.session)) = omega (arith, long, gone) in
    let n : 0 + id.number ≡ id.number = omega arith in
    let at : slice_get (ids_from id.session 0 (take (mark_of parts id.session) (session_of history id.session))) id.number ≡ Some id = ids_from_at id.session 0 (take (mark_of parts id.session) (session_of history id.session)) id.number within ∙ ap (λ (k : ℕ). Some (record { session = id.session; number = k })) n in
    filtered_at (in_session id.session) past id (id.number, ap (λ ids. slice_get ids id.number) (behind.gone id.session) ∙ at)

-- of what isn't gone is looked up what the history has
pub same_txn : (past : List TxnId) (parts : Parts) (history : History) (id : TxnId) → RemainsBehind past parts history → mark_of parts id.session ≤ id.number → remaining_at parts id ≡ txn_at history id
same_txn past parts history id behind at =
    let n : mark_of parts id.session + (id.number - mark_of parts id.session) ≡ id.number = omega (arith, at) in
    look_up parts id at
    ∙ ap (λ txns. slice_get txns (id.number - mark_of parts id.session)) (behind.remain id.session)
    ∙ drop_at (session_of history id.session) (mark_of parts id.session) (id.number - mark_of parts id.session)
    ∙ ap (slice_get (session_of history id.session)) n

-- what remains isn't gone
pub not_gone : (parts : Parts) (id : TxnId) → Remains parts id → mark_of parts id.session ≤ id.number
not_gone parts id remains = by_case (cases_lt id.number (mark_of parts id.session))
  where
    by_case : (id.number < mark_of parts id.session) ⊎ (mark_of parts id.session ≤ id.number) → mark_of parts id.session ≤ id.number
    by_case (inl gone) = absurd (gone_past parts id gone remains)
    by_case (inr at) = at

pub remains_same : (past : List TxnId) (parts : Parts) (history : History) (id : TxnId) → RemainsBehind past parts history → Remains parts id → remaining_at parts id ≡ txn_at history id
remains_same past parts history id behind remains = same_txn past parts history id behind (not_gone parts id remains)

-- what stands in an order of all that remains isn't gone
pub kept_at : (parts : Parts) (order : List TxnId) (id : TxnId) → KeepsSessions parts order → IsAt order id → mark_of parts id.session ≤ id.number
kept_at parts order id keeps here = by_place (subst (λ ids. IsAt ids id) (keeps id.session) (at_session order id here))
  where
    by_place : IsAt (ids_from id.session (mark_of parts id.session) (remaining_of parts id.session)) id → mark_of parts id.session ≤ id.number
    by_place (k, at) = let place = id_at_place id.session (mark_of parts id.session) (remaining_of parts id.session) k id at in omega (arith, place.2)

-- what isn't gone doesn't stand in the past
pub not_past : (past : List TxnId) (parts : Parts) (history : History) (id : TxnId) → RemainsBehind past parts history → mark_of parts id.session ≤ id.number → ¬ Contains past id
not_past past parts history id behind at has = let gone = is_gone past parts history id behind (at_place past id has) in omega (arith, at, gone)

-- each last gone writer is gone
pub gone_base : (past : List TxnId) (parts : Parts) (history : History) → RemainsBehind past parts history → HasGoneBase parts
gone_base past parts history behind key writer e = by_last ((behind.last key writer).0 e)
  where
    by_last : IsLastWriter (txn_at history) key past writer → IsGone parts writer
    by_last (older, newer, is, writes, none) = is_gone past parts history writer behind (subst (λ ids. IsAt ids writer) (sym is) (at_seam older newer writer))
