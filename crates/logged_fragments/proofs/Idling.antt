-- The transactions that aborted are made idle, one after the other.
use Rattle.std.proofs.Common.{◌≡◌, ℕ, zero, suc, ◌+◌, ◌<◌, ◌≤◌, Bool, true, false, List, [], ◌∷◌, take, length, refl, ap, subst, ◌∙◌, arith}
use Rattle.std.specs.Prelude.{slice_set, slice_index_or}
use Rattle.txn.specs.declared.transactions.Txn.{Txn}
use Rattle.logged_fragments.specs.Effects.{idle, effects_of}

pub effects_of_length : (flags : List Bool) (txns : List Txn) → length (effects_of flags txns) ≡ length txns
effects_of_length [] txns = refl
effects_of_length (flag ∷ flags) [] = refl
effects_of_length (true ∷ flags) (txn ∷ txns) = ap suc (effects_of_length flags txns)
effects_of_length (false ∷ flags) (txn ∷ txns) = ap suc (effects_of_length flags txns)

-- a flagged one
pub idle_next : (flags : List Bool) (txns : List Txn) (n : ℕ) → n < length flags → n < length txns → slice_index_or flags n false ≡ true → slice_set (effects_of (take n flags) txns) n idle ≡ effects_of (take (suc n) flags) txns
idle_next [] txns n inside within flagged = absurd (omega (arith, inside))
idle_next (flag ∷ flags) [] n inside within flagged = absurd (omega (arith, within))
idle_next (true ∷ flags) (txn ∷ txns) zero inside within flagged = refl
idle_next (false ∷ flags) (txn ∷ txns) zero inside within flagged = absurd (grind (arith, flagged))
idle_next (true ∷ flags) (txn ∷ txns) (suc n) inside within flagged = ap (λ rest. idle ∷ rest) (idle_next flags txns n (omega (arith, inside)) (omega (arith, within)) flagged)
idle_next (false ∷ flags) (txn ∷ txns) (suc n) inside within flagged = ap (λ rest. txn ∷ rest) (idle_next flags txns n (omega (arith, inside)) (omega (arith, within)) flagged)

-- one that isn't flagged
pub left_next : (flags : List Bool) (txns : List Txn) (n : ℕ) → n < length flags → slice_index_or flags n false ≡ false → effects_of (take n flags) txns ≡ effects_of (take (suc n) flags) txns
left_next [] txns n inside flagged = absurd (omega (arith, inside))
left_next (flag ∷ flags) [] zero inside flagged = refl
left_next (flag ∷ flags) [] (suc n) inside flagged = refl
left_next (true ∷ flags) (txn ∷ txns) zero inside flagged = absurd (grind (arith, flagged))
left_next (false ∷ flags) (txn ∷ txns) zero inside flagged = refl
left_next (true ∷ flags) (txn ∷ txns) (suc n) inside flagged = ap (λ rest. idle ∷ rest) (left_next flags txns n (omega (arith, inside)) flagged)
left_next (false ∷ flags) (txn ∷ txns) (suc n) inside flagged = ap (λ rest. txn ∷ rest) (left_next flags txns n (omega (arith, inside)) flagged)

-- flags behind the last transaction mean nothing
pub past_next : (flags : List Bool) (txns : List Txn) (n : ℕ) → length txns ≤ n → effects_of (take n flags) txns ≡ effects_of (take (suc n) flags) txns
past_next [] txns zero past = refl
past_next [] txns (suc n) past = refl
past_next (flag ∷ flags) [] zero past = refl
past_next (flag ∷ flags) [] (suc n) past = refl
past_next (flag ∷ flags) (txn ∷ txns) zero past = absurd (omega (arith, past))
past_next (true ∷ flags) (txn ∷ txns) (suc n) past = ap (λ rest. idle ∷ rest) (past_next flags txns n (omega (arith, past)))
past_next (false ∷ flags) (txn ∷ txns) (suc n) past = ap (λ rest. txn ∷ rest) (past_next flags txns n (omega (arith, past)))

-- flags to this place, and the next
to_next : (flags : List Bool) (txns now : List Txn) (n : ℕ) → now ≡ effects_of (take (suc n) flags) txns → now ≡ effects_of (take (n + 1) flags) txns
to_next flags txns now n is = let sum : suc n ≡ n + 1 = omega arith in is ∙ ap (λ k. effects_of (take k flags) txns) sum

idle_is : (none : Txn) → none.reads ≡ [] → none.writes ≡ [] → none ≡ idle
idle_is none reads writes = grind (arith, reads, writes)

pub flagged_next : (flags : List Bool) (txns now made : List Txn) (n : ℕ) (none : Txn) → n < length flags → n < length now → slice_index_or flags n false ≡ true → now ≡ effects_of (take n flags) txns → none.reads ≡ [] → none.writes ≡ [] → made ≡ slice_set now n none → made ≡ effects_of (take (n + 1) flags) txns
flagged_next flags txns now made n none inside within flagged so_far reads writes set = to_next flags txns made n (set ∙ ap (λ txn. slice_set now n txn) (idle_is none reads writes) ∙ ap (λ list. slice_set list n idle) so_far ∙ idle_next flags txns n inside (subst (λ size. n < size) (ap length so_far ∙ effects_of_length (take n flags) txns) within) flagged)

pub unflagged_next : (flags : List Bool) (txns now made : List Txn) (n : ℕ) → n < length flags → slice_index_or flags n false ≡ false → now ≡ effects_of (take n flags) txns → made ≡ now → made ≡ effects_of (take (n + 1) flags) txns
unflagged_next flags txns now made n inside flagged so_far same = to_next flags txns made n (same ∙ so_far ∙ left_next flags txns n inside flagged)

pub beyond_next : (flags : List Bool) (txns now made : List Txn) (n : ℕ) → length now ≤ n → now ≡ effects_of (take n flags) txns → made ≡ now → made ≡ effects_of (take (n + 1) flags) txns
beyond_next flags txns now made n past so_far same = to_next flags txns made n (same ∙ so_far ∙ past_next flags txns n (subst (λ size. size ≤ n) (ap length so_far ∙ effects_of_length (take n flags) txns) past))
