-- What may follow a front of an order that explains parts.
use Rattle.std.proofs.Common.{◌≡◌, ℕ, ◌+◌, ◌<◌, ◌≤◌, inl, inr, Bool, true, false, nat_eq, List, [], ◌∷◌, ◌++◌, length, filter, count_by, sum_by, take, Some, None, IsTrue, ◌↔◌, refl, subst, ap, ◌∙◌, arith, append_assoc, length-append}
use Rattle.std.specs.List.{slice_get}
use Rattle.std.proofs.lemmas.Bool.{cases_lt, eq-eqb}
use Rattle.std.proofs.lemmas.List.{append-nil}
use Rattle.std.proofs.Math.Seq.{take-append_seam}
use Rattle.std.proofs.lemmas.List.Elements.{filter-append}
use Rattle.std.proofs.lemmas.List.Sums.{length-filter}
use Rattle.std.proofs.lemmas.Option.{slice_get_within}
use Rattle.txn.specs.declared.transactions.TxnId.{TxnId}
use Rattle.txn.specs.History.{in_session}
use Rattle.txn.proofs.Sessions.{length_ids_from}
use Rattle.order_check.specs.declared.remainder.Parts.{Parts}
use Rattle.order_check.specs.Based.{remaining_ids}
use Rattle.order_check.specs.Explains.{KeepsSessions, Explains}
use Rattle.order_check.specs.Fronts.{HasOrderFrom, HasOrderInto, next_of, Tells}
use Rattle.order_check.proofs.Lengths.{length_kept}
use Rattle.order_check.proofs.Remaining.{session_past}

slice_get_behind : {X : Type 0} (xs : List X) (y : X) (ys : List X) → slice_get (xs ++ y ∷ ys) (length xs) ≡ Some y
slice_get_behind [] y ys = refl
slice_get_behind (x ∷ xs) y ys = slice_get_behind xs y ys

-- the id that stands behind a front is the next one of its session
pub next_is : (parts : Parts) (front : List TxnId) (id : TxnId) (rest : List TxnId) → KeepsSessions parts (front ++ id ∷ rest) → next_of parts front id.session ≡ Some id
next_is parts front id rest kept =
    let s = id.session in
    let of : TxnId → Bool = in_session s in
    let here : nat_eq s s ≡ true = eq-eqb s s refl in
    let split : filter of (front ++ id ∷ rest) ≡ filter of front ++ id ∷ filter of rest = filter-append of front (id ∷ rest) ∙ rw here refl in
    rw (← kept s, split, ← length-filter of front) (slice_get_behind (filter of front) id (filter of rest))

-- the session of a next id is there
pub next_within : (parts : Parts) (front : List TxnId) (s : ℕ) (id : TxnId) → next_of parts front s ≡ Some id → s < length parts.remain
next_within parts front s id next =
    let n = count_by (in_session s) front in
    let within : n < length (remaining_ids parts s) = slice_get_within (remaining_ids parts s) n id next in
    let within = rw length_ids_from at within in
    let missing : length parts.remain ≤ s → s < length parts.remain = λ past. let none = rw (session_past parts.remain s past) at within in absurd (omega arith) in
    elim (cases_lt s (length parts.remain)) [ inl here ↦ here | inr past ↦ missing past ]

-- a front of which nothing is missing is itself the order
whole_from_rest : (parts : Parts) (front rest : List TxnId) → length front ≡ sum_by length parts.remain → Explains parts (front ++ rest) → Explains parts front
whole_from_rest parts front [] whole explained = rw append-nil at explained
whole_from_rest parts front (id ∷ rest) whole explained =
    let all : length (front ++ id ∷ rest) ≡ sum_by length parts.remain = length_kept parts (front ++ id ∷ rest) explained.sessions in
    let parts-of : length (front ++ id ∷ rest) ≡ length front + length (id ∷ rest) = length-append front (id ∷ rest) in
    absurd (omega arith)

-- a test of a whole front tells whether an order begins with it
pub whole_tells : (parts : Parts) (front : List TxnId) (yes : Bool) → length front ≡ sum_by length parts.remain → (IsTrue yes ↔ Explains parts front) → Tells parts front front yes (HasOrderFrom parts front)
whole_tells parts front true whole tells = tells.0 refl
whole_tells parts front false whole tells = (refl, λ (rest, explained). let yes = tells.1 (whole_from_rest parts front rest whole explained) in cc)

-- what a trial tells that found no order
pub told_none : (parts : Parts) (old new : List TxnId) (found : Bool) (some : Type 0) → found ≡ false → Tells parts old new found some → (new ≡ old) × (¬ some)
told_none parts old new true some e told = absurd cc
told_none parts old new false some e told = told

-- where no session has the next id, no order begins with the front
pub none_from_sessions : (parts : Parts) (front : List TxnId) → length front < sum_by length parts.remain → ((s : ℕ) → s < length parts.remain → ¬ HasOrderInto parts front s) → ¬ HasOrderFrom parts front
none_from_sessions parts front short none (rest, explained) = by_rest rest explained
  where
    by_rest : (rest : List TxnId) → Explains parts (front ++ rest) → ⊥
    by_rest [] explained =
        let all : length (front ++ []) ≡ sum_by length parts.remain = length_kept parts (front ++ []) explained.sessions in
        let all = rw append-nil at all in
        omega arith
    by_rest (id ∷ rest) explained =
        let next = next_is parts front id rest explained.sessions in
        none id.session (next_within parts front id.session id next) (id, rest, refl, explained)

-- the same, where the session goes by another name
next_in : (parts : Parts) (front : List TxnId) (s : ℕ) (id : TxnId) (rest : List TxnId) → id.session ≡ s → KeepsSessions parts (front ++ id ∷ rest) → next_of parts front s ≡ Some id
next_in parts front s id rest of kept = subst (λ (q : ℕ). next_of parts front q ≡ Some id) of (next_is parts front id rest kept)

-- where the session has no more ids, none of them is next
pub none_without_next : (parts : Parts) (front : List TxnId) (s : ℕ) → next_of parts front s ≡ None → ¬ HasOrderInto parts front s
none_without_next parts front s missing (id, rest, of, explained) =
    let next = next_in parts front s id rest of explained.sessions in
    cc

-- an order with the session's next id behind the front begins with both
from_next : (parts : Parts) (front : List TxnId) (s : ℕ) (id : TxnId) → next_of parts front s ≡ Some id → HasOrderInto parts front s → HasOrderFrom parts (front ++ id ∷ [])
from_next parts front s id next (other, rest, of, explained) =
    let also = next_in parts front s other rest of explained.sessions in
    let same : other ≡ id = cc in
    let explained = rw same at explained in
    (rest, rw append_assoc explained)

-- a trial behind the front and the next id tells of the front, once the id is taken off again
pub next_tells : (parts : Parts) (front tried left : List TxnId) (s : ℕ) (id : TxnId) (found : Bool) → found ≡ false → next_of parts front s ≡ Some id → Tells parts (front ++ id ∷ []) tried found (HasOrderFrom parts (front ++ id ∷ [])) → left ≡ take (length front) tried → Tells parts front left found (HasOrderInto parts front s)
next_tells parts front tried left s id true e next told taken = absurd cc
next_tells parts front tried left s id false e next told taken =
    (taken ∙ ap (take (length front)) told.0 ∙ take-append_seam front (id ∷ []), λ some. told.1 (from_next parts front s id next some))
