-- Orders place by place.
use Rattle.std.proofs.Common.{◌≡◌, ℕ, ◌+◌, ◌<◌, ◌≤◌, refl, sym, ap, subst, ◌∙◌, arith, None, List, ◌∷◌, ◌++◌, length, get_or, take, drop}
use Rattle.std.specs.Ordering.{nat_cmp}
use Rattle.std.specs.FinMap.{FinMap, get}
use Rattle.std.proofs.lemmas.List.{take-append-drop, drop_more, take_at, get_or_at, take_more, length-append}
use Rattle.txn.specs.declared.transactions.TxnId.{TxnId}
use Rattle.order_check.specs.declared.remainder.Parts.{Parts}
use Rattle.order_check.specs.Based.{remaining_at}
use Rattle.order_check.specs.Explains.{MeetsReads, MeetsAllReads}
use Rattle.order_check.specs.Replay.{writer_after}
use Rattle.order_check.proofs.Replayed.{last_push}
use Rattle.order_check.proofs.MetReads.{Notes}

-- the id at a place past the end
abbrev pub first_id : TxnId
first_id = record { session = 0; number = 0 }

abbrev pub id_at : List TxnId → ℕ → TxnId
id_at order k = get_or order k first_id

-- what stands in front of a place, the id there, and what stands behind it
pub split_at : (order : List TxnId) (k : ℕ) → k < length order → order ≡ take k order ++ id_at order k ∷ drop (k + 1) order
split_at order k within = sym (take-append-drop k order) ∙ ap (λ back. take k order ++ back) (drop_more order k first_id within)

-- the reads of the first n ids are met by what stands in front
abbrev pub FirstMeet : Parts → List TxnId → ℕ → Type 0
FirstMeet parts order n = (k : ℕ) → k < n → MeetsReads parts (take k order) (id_at order k)

pub all_meet : (parts : Parts) (order : List TxnId) (n : ℕ) → FirstMeet parts order n → length order ≤ n → MeetsAllReads parts order
all_meet parts order n first past = λ front back id split.
    let k = length front in
    let within : k < n = omega (arith, ap length split, length-append front (id ∷ back)) in
    let here : id_at order k ≡ id = ap (λ xs. id_at xs k) split ∙ get_or_at front id back first_id k refl in
    let ahead : take k order ≡ front = ap (take k) split ∙ take_at front (id ∷ back) k refl in
    subst (MeetsReads parts front) here (subst (λ ids. MeetsReads parts ids (id_at order k)) ahead (first k within))

pub meet_at : (parts : Parts) (order : List TxnId) (k : ℕ) → MeetsAllReads parts order → k < length order → MeetsReads parts (take k order) (id_at order k)
meet_at parts order k all within = all (take k order) (drop (k + 1) order) (id_at order k) (split_at order k within)

-- one more id is noted
pub notes_more : (parts : Parts) (order : List TxnId) (k : ℕ) (front new : FinMap nat_cmp TxnId) → k < length order → Notes parts (take k order) front → ((key : ℕ) → get new key ≡ writer_after (id_at order k) (remaining_at parts (id_at order k)) key (get front key)) → Notes parts (take (k + 1) order) new
notes_more parts order k front new within notes noted =
    subst (λ ids. Notes parts ids new) (sym (take_more order k first_id within)) (λ key.
    noted key ∙ ap (writer_after (id_at order k) (remaining_at parts (id_at order k)) key) (notes key)
    ∙ sym (last_push (remaining_at parts) key (take k order) (id_at order k) None))
