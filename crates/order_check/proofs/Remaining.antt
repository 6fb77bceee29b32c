-- Where a remaining transaction stands.
use Rattle.std.proofs.Common.{◌≡◌, ℕ, ◌+◌, ◌-◌, ◌<◌, ◌≤◌, inl, inr, Bool, true, false, nat_lt, cond, List, [], length, get_or, Option, Some, None, refl, sym, arith}
use Rattle.std.specs.List.{slice_get}
use Rattle.std.proofs.lemmas.Bool.{ltb-false, le-ltb}
use Rattle.std.proofs.lemmas.Option.{get_or_from_slice_get, slice_get_read, slice_get_cases}
use Rattle.std.proofs.Math.ListN.{get_or-eq_default}
use Rattle.txn.specs.declared.transactions.TxnId.{TxnId}
use Rattle.txn.specs.declared.transactions.Txn.{Txn}
use Rattle.txn.specs.History.{session_of}
use Rattle.order_check.specs.declared.remainder.Parts.{Parts}
use Rattle.order_check.specs.Based.{mark_of, remaining_of, remaining_at}

not_skipped : {X : Type 0} (skip : Bool) (at : Option X) (x : X) → cond skip None at ≡ Some x → (skip ≡ false) × (at ≡ Some x)
not_skipped true at x e = cc
not_skipped false at x e = (refl, e)

-- a remaining transaction stands at its number less the mark
pub remaining_place : (parts : Parts) (id : TxnId) (txn : Txn) → remaining_at parts id ≡ Some txn → (mark_of parts id.session ≤ id.number) × (slice_get (remaining_of parts id.session) (id.number - mark_of parts id.session) ≡ Some txn)
remaining_place parts id txn e =
    let at = slice_get (remaining_of parts id.session) (id.number - mark_of parts id.session) in
    let h = not_skipped (nat_lt id.number (mark_of parts id.session)) at txn e in
    (ltb-false id.number (mark_of parts id.session) h.0, h.1)

-- a transaction at a place of a session remains under the id of that place
pub remaining_from_place : (parts : Parts) (s n : ℕ) (txn : Txn) → slice_get (remaining_of parts s) n ≡ Some txn → remaining_at parts (record { session = s; number = mark_of parts s + n }) ≡ Some txn
remaining_from_place parts s n txn e =
    let kept : nat_lt (mark_of parts s + n) (mark_of parts s) ≡ false = le-ltb (mark_of parts s + n) (mark_of parts s) (omega arith) in
    let place : mark_of parts s + n - mark_of parts s ≡ n = omega arith in
    rw (kept, place) e

-- the session at a place
pub session_at : {X : Type 0} (sessions : List (List X)) (s : ℕ) (txns : List X) → s < length sessions → get_or sessions s txns ≡ txns → session_of sessions s ≡ txns
session_at sessions s txns within e = get_or_from_slice_get sessions s txns [] (slice_get_read sessions (length sessions) s txns refl within (sym e))

-- a session that isn't there has nothing
pub session_past : {X : Type 0} (sessions : List (List X)) (s : ℕ) → length sessions ≤ s → session_of sessions s ≡ []
session_past sessions s past = get_or-eq_default sessions [] past

-- a session that has something is there
pub session_within : {X : Type 0} (sessions : List (List X)) (s n : ℕ) (x : X) → slice_get (session_of sessions s) n ≡ Some x → s < length sessions
session_within sessions s n x e =
    let missing : length sessions ≤ s → s < length sessions = λ past. let none = rw (session_past sessions s past) at e in cc in
    elim (slice_get_cases sessions s).1 [ inl here ↦ here.1 | inr past ↦ missing past.0 ]
