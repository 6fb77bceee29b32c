-- The last remaining transaction of a session says whether the session is past a fence.
use Rattle.std.proofs.Common.{◌≡◌, ◌≢◌, ℕ, ◌-◌, ◌<◌, ◌≤◌, true, cond, refl, sym, ap, ◌∙◌, ◌⊎◌, inl, inr, subst, arith, None, []}
use Rattle.std.specs.Prelude.{◌↔◌}
use Rattle.std.specs.List.{slice_get}
use Rattle.std.specs.Option.{is_some}
use Rattle.std.proofs.lemmas.Bool.{lt-ltb, le-ltb, cases_lt}
use Rattle.list_lemmas.proofs.Places.{some_within, within_some}
use Rattle.txn.specs.declared.transactions.TxnId.{TxnId}
use Rattle.txn.proofs.Ids.{same_numbers}
use Rattle.order_check.specs.declared.remainder.Parts.{Parts}
use Rattle.order_check.specs.Based.{mark_of, remaining_of, remaining_at, received_count, Remains}
use Rattle.order_check.specs.Known.{Known, by_session, through}
use Rattle.order_check.specs.Settled.{IsBefore, IsPast}
use Rattle.settle.specs.Lines.{IsLastRemaining, IsPastBy}

-- an id that isn't gone is looked up at its place in what remains
look_up : (parts : Parts) (id : TxnId) → mark_of parts id.session ≤ id.number → remaining_at parts id ≡ slice_get (remaining_of parts id.session) (id.number - mark_of parts id.session)
look_up parts id at = ap (λ b. cond b None (slice_get (remaining_of parts id.session) (id.number - mark_of parts id.session))) (le-ltb id.number (mark_of parts id.session) at)

gone_past : (parts : Parts) (id : TxnId) → id.number < mark_of parts id.session → Remains parts id → ⊥
gone_past parts id gone remains =
    let none : remaining_at parts id ≡ None = ap (λ b. cond b None (slice_get (remaining_of parts id.session) (id.number - mark_of parts id.session))) (lt-ltb id.number (mark_of parts id.session) gone) in
    let some : is_some (remaining_at parts id) ≡ true = remains in cc

remains_within : (parts : Parts) (id : TxnId) → Remains parts id → (mark_of parts id.session ≤ id.number) × (id.number < received_count parts id.session)
remains_within parts id remains = elim (cases_lt id.number (mark_of parts id.session)) as (λ _. (mark_of parts id.session ≤ id.number) × (id.number < received_count parts id.session)) [
  | inl gone ↦ absurd (gone_past parts id gone remains)
  | inr at ↦ let within = some_within (remaining_of parts id.session) (id.number - mark_of parts id.session) (sym (ap is_some (look_up parts id at)) ∙ remains) in (at, omega arith)
]

pub none_remain : (parts : Parts) (s received mark : ℕ) → received ≡ received_count parts s → mark ≡ mark_of parts s → received ≡ mark → (id : TxnId) → id.session ≡ s → ¬ Remains parts id
none_remain parts s received mark e f none id session remains =
    let within = subst (λ n. (mark_of parts n ≤ id.number) × (id.number < received_count parts n)) session (remains_within parts id remains) in
    let low = within.0 in let high = within.1 in absurd (omega arith)

pub last_remains : (parts : Parts) (s received mark : ℕ) → received ≡ received_count parts s → mark ≡ mark_of parts s → received ≢ mark → IsLastRemaining parts s (record { session = s; number = received - 1 })
last_remains parts s received mark e f some = record { session = refl; remains = there; highest = highest }
  where
    last : TxnId
    last = record { session = s; number = received - 1 }

    more : mark_of parts s < received_count parts s
    more = omega arith

    there : Remains parts last
    there = ap is_some (look_up parts last (omega arith)) ∙ within_some (remaining_of parts s) (last.number - mark_of parts s) (omega arith)

    highest : (id : TxnId) → id.session ≡ s → Remains parts id → id.number ≤ received - 1
    highest id session remains =
        let within = subst (λ n. (mark_of parts n ≤ id.number) × (id.number < received_count parts n)) session (remains_within parts id remains) in
        let low = within.0 in let high = within.1 in omega arith

-- a session is past the fence where its last remaining transaction is
pub past_by_last : (parts : Parts) (fence : TxnId) (s : ℕ) (last : TxnId) → IsLastRemaining parts s last → IsPastBy parts fence last ↔ IsPast parts fence s
past_by_last parts fence s last is = ((λ past. (last, is.session, is.remains, past)), backwards)
  where
    backwards : IsPast parts fence s → IsPastBy parts fence last
    backwards (id, session, remains, past) = by_number (cases_lt id.number last.number) past
      where
        onto : (id.number < last.number) → Known parts [] id last
        onto below = by_session remains is.remains (session ∙ sym is.session) below

        by_number : (id.number < last.number) ⊎ (last.number ≤ id.number) → IsPastBy parts fence id → IsPastBy parts fence last
        by_number (inl below) (inl same) = inr (subst (λ x. IsBefore parts x last) same (onto below))
        by_number (inl below) (inr before) = inr (through before (onto below))
        by_number (inr up) given = let high = is.highest id session remains in subst (λ x. IsPastBy parts fence x) (same_numbers id last (session ∙ sym is.session) (omega arith)) given

pub no_past : (parts : Parts) (fence : TxnId) (s : ℕ) → ((id : TxnId) → id.session ≡ s → ¬ Remains parts id) → ¬ IsPast parts fence s
no_past parts fence s none (id, session, remains, past) = none id session remains
