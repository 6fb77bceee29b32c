-- Ids that are gone, that remain, and that are received.
use Rattle.std.proofs.Common.{◌≡◌, ◌-◌, ◌≤◌, true, cond, sym, ap, ◌∙◌, ◌⊎◌, inl, inr, arith, None}
use Rattle.std.specs.List.{slice_get}
use Rattle.std.specs.Option.{is_some}
use Rattle.std.proofs.lemmas.Bool.{lt-ltb, le-ltb, cases_lt}
use Rattle.list_lemmas.proofs.Places.{some_within, within_some}
use Rattle.txn.specs.declared.transactions.TxnId.{TxnId}
use Rattle.order_check.specs.declared.remainder.Parts.{Parts}
use Rattle.order_check.specs.Based.{mark_of, remaining_of, remaining_at, IsGone, Remains, IsReceived}

-- nothing is looked up of a gone id
pub gone_none : (parts : Parts) (id : TxnId) → IsGone parts id → remaining_at parts id ≡ None
gone_none parts id gone = ap (λ b. cond b None (slice_get (remaining_of parts id.session) (id.number - mark_of parts id.session))) (lt-ltb id.number (mark_of parts id.session) gone)

-- of another it is looked up at its place in what remains
pub look_up : (parts : Parts) (id : TxnId) → mark_of parts id.session ≤ id.number → remaining_at parts id ≡ slice_get (remaining_of parts id.session) (id.number - mark_of parts id.session)
look_up parts id at = ap (λ b. cond b None (slice_get (remaining_of parts id.session) (id.number - mark_of parts id.session))) (le-ltb id.number (mark_of parts id.session) at)

pub gone_received : (parts : Parts) (id : TxnId) → IsGone parts id → IsReceived parts id
gone_received parts id gone = omega arith

-- a gone id doesn't remain
pub gone_past : (parts : Parts) (id : TxnId) → IsGone parts id → Remains parts id → ⊥
gone_past parts id gone remains = let none = gone_none parts id gone in let some : is_some (remaining_at parts id) ≡ true = remains in cc

pub remains_received : (parts : Parts) (id : TxnId) → Remains parts id → IsReceived parts id
remains_received parts id remains =
    elim (cases_lt id.number (mark_of parts id.session)) as (λ _. IsReceived parts id) [
      | inl gone ↦ gone_received parts id gone
      | inr at ↦ let within = some_within (remaining_of parts id.session) (id.number - mark_of parts id.session) (sym (ap is_some (look_up parts id at)) ∙ remains) in omega arith
    ]

-- a received id is gone or remains
pub received_cases : (parts : Parts) (id : TxnId) → IsReceived parts id → IsGone parts id ⊎ Remains parts id
received_cases parts id received =
    elim (cases_lt id.number (mark_of parts id.session)) as (λ _. IsGone parts id ⊎ Remains parts id) [
      | inl gone ↦ inl gone
      | inr at ↦ inr (ap is_some (look_up parts id at) ∙ within_some (remaining_of parts id.session) (id.number - mark_of parts id.session) (omega arith))
    ]
