-- What remains of parts is what is there in a graph over them.
use Rattle.std.proofs.Common.{◌≡◌, ℕ, ◌-◌, ◌<◌, Bool, true, false, List, length, Option, None, sym, ap, ◌∙◌, inl, inr, cond, nat_lt, is_some, arith}
use Rattle.std.specs.List.{slice_get}
use Rattle.std.proofs.lemmas.Bool.{cases_lt, lt-ltb, le-ltb, false≢true}
use Rattle.std.proofs.lemmas.Option.{slice_get_cases}
use Rattle.txn.specs.declared.transactions.TxnId.{TxnId}
use Rattle.txn.specs.declared.transactions.Txn.{Txn}
use Rattle.order_check.specs.declared.remainder.Parts.{Parts}
use Rattle.order_check.specs.Based.{mark_of, remaining_of, Remains}
use Rattle.session_clocks.specs.Reach.{IsThere}
use Rattle.clock_choices.specs.Over.{IsOver}

-- the place has a transaction exactly where it is within the list
some_within : (txns : List Txn) (n : ℕ) → is_some (slice_get txns n) ≡ true → n < length txns
some_within txns n some = elim ((slice_get_cases txns n).1) [
  | inl here ↦ here.1
  | inr past ↦ absurd (false≢true (sym (ap is_some past.1) ∙ some))
]

within_some : (txns : List Txn) (n : ℕ) → n < length txns → is_some (slice_get txns n) ≡ true
within_some txns n within = elim ((slice_get_cases txns n).1) [
  | inl here ↦ ap is_some here.2
  | inr past ↦ absurd (omega (arith, past.0, within))
]

module _ (parts : Parts) (gone received : List ℕ) (over : IsOver parts gone received) where
  -- the transaction's place among those that remain of its session
  abbrev place_of : TxnId → ℕ
  place_of id = id.number - mark_of parts id.session

  abbrev looked_up : TxnId → Option Txn
  looked_up id = slice_get (remaining_of parts id.session) (place_of id)

  pub there_remains : (id : TxnId) → IsThere gone received id → Remains parts id
  there_remains id there =
      let mark = over.marks id.session in
      let count = over.counts id.session in
      let skip : nat_lt id.number (mark_of parts id.session) ≡ false = le-ltb id.number (mark_of parts id.session) (omega (arith, there.0, mark)) in
      ap (λ (b : Bool). is_some (cond b None (looked_up id))) skip ∙ within_some (remaining_of parts id.session) (place_of id) (omega (arith, there.0, there.1, mark, count))

  pub remains_there : (id : TxnId) → Remains parts id → IsThere gone received id
  remains_there id remains =
      let mark = over.marks id.session in
      let count = over.counts id.session in
      elim (cases_lt id.number (mark_of parts id.session)) [
        | inl below ↦ absurd (false≢true (sym (ap (λ (b : Bool). is_some (cond b None (looked_up id))) (lt-ltb id.number (mark_of parts id.session) below)) ∙ remains))
        | inr above ↦
            let skip : nat_lt id.number (mark_of parts id.session) ≡ false = le-ltb id.number (mark_of parts id.session) above in
            let within = some_within (remaining_of parts id.session) (place_of id) (sym (ap (λ (b : Bool). is_some (cond b None (looked_up id))) skip) ∙ remains) in
            (omega (arith, above, mark), omega (arith, above, within, count))
      ]
