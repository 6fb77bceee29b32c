-- Ids picked out of a list that is in order.
use Rattle.std.proofs.Common.{◌≡◌, ℕ, ◌+◌, ◌<◌, ◌≤◌, ◌⊎◌, true, List, [], ◌∷◌, ◌++◌, length, get_or, take, sym, ◌∙◌, inl, inr, subst, arith}
use Rattle.std.specs.Prelude.{Contains, nat_lt, nat_eq, ◌||◌, ◌&&◌}
use Rattle.std.proofs.lemmas.Bool.Decides.{nat_tests}
use Rattle.std.proofs.lemmas.List.{take_more, take_all, get_or-take, get_or_default, length-take}
use Rattle.std.proofs.lemmas.List.Elements.{Contains-push, Contains-push_cases, Contains-append_left, Contains-get_or}
use Rattle.std.proofs.lemmas.List.Quantifiers.{all_pairs_push}
use Rattle.list_lemmas.proofs.Members.{none_in_none}
use Rattle.txn.specs.declared.transactions.TxnId.{TxnId}
use Rattle.txn.specs.Transactions.{id_below}
use Rattle.fence_chain.specs.Picked.{AreInOrder, IsPicked, PicksOne}

-- what is in the front of a list in order is below the next
pub front_below : (ids : List TxnId) (k : ℕ) (d y : TxnId) → k < length ids → AreInOrder ids → Contains (take k ids) y → id_below y (get_or ids k d) ≡ true
front_below ids k d y within rise (j, under, is) =
    let short : j < k = omega (arith, length-take k ids) in
    let read : get_or ids j y ≡ y = sym (get_or-take k ids j y short) ∙ is in
    let below : id_below (get_or ids j y) (get_or ids k y) ≡ true = rise j k y short within in
    subst (λ w. id_below w (get_or ids k d) ≡ true) read (subst (λ w. id_below (get_or ids j y) w ≡ true) (get_or_default ids k y d within) below)

pub picked_none : (Has : TxnId → Type 0) (ids : List TxnId) → IsPicked Has (take 0 ids) []
picked_none Has ids = record { members = λ id. ((λ h. absurd (none_in_none id h)), (λ h. absurd (none_in_none id h.0))); rise = λ i j d first under. absurd (omega arith) }

picked_push : (Has : TxnId → Type 0) (front picked : List TxnId) (x : TxnId) → ((y : TxnId) → Contains front y → id_below y x ≡ true) → IsPicked Has front picked → Has x → IsPicked Has (front ++ x ∷ []) (picked ++ x ∷ [])
picked_push Has front picked x below so_far has = record { members = λ id. (into id, back id); rise = all_pairs_push (λ a b. id_below a b ≡ true) picked x so_far.rise (λ k d within. below (get_or picked k d) ((so_far.members (get_or picked k d)).0 (Contains-get_or picked k d within)).0) }
  where
    into : (id : TxnId) → Contains (picked ++ x ∷ []) id → Contains (front ++ x ∷ []) id × Has id
    into id h = by_part (Contains-push_cases picked x id h)
      where
        by_part : Contains picked id ⊎ (x ≡ id) → Contains (front ++ x ∷ []) id × Has id
        by_part (inl there) = let here = (so_far.members id).0 there in (Contains-append_left front (x ∷ []) id here.0, here.1)
        by_part (inr e) = (subst (λ y. Contains (front ++ x ∷ []) y) e (Contains-push front x), subst (λ y. Has y) e has)

    back : (id : TxnId) → Contains (front ++ x ∷ []) id × Has id → Contains (picked ++ x ∷ []) id
    back id (h, is) = by_part (Contains-push_cases front x id h)
      where
        by_part : Contains front id ⊎ (x ≡ id) → Contains (picked ++ x ∷ []) id
        by_part (inl there) = Contains-append_left picked (x ∷ []) id ((so_far.members id).1 (there, is))
        by_part (inr e) = subst (λ y. Contains (picked ++ x ∷ []) y) e (Contains-push picked x)

picked_pass : (Has : TxnId → Type 0) (front picked : List TxnId) (x : TxnId) → IsPicked Has front picked → ¬ Has x → IsPicked Has (front ++ x ∷ []) picked
picked_pass Has front picked x so_far has_not = record { members = λ id. (into id, back id); rise = so_far.rise }
  where
    into : (id : TxnId) → Contains picked id → Contains (front ++ x ∷ []) id × Has id
    into id h = let here = (so_far.members id).0 h in (Contains-append_left front (x ∷ []) id here.0, here.1)

    back : (id : TxnId) → Contains (front ++ x ∷ []) id × Has id → Contains picked id
    back id (h, is) = by_part (Contains-push_cases front x id h)
      where
        by_part : Contains front id ⊎ (x ≡ id) → Contains picked id
        by_part (inl there) = (so_far.members id).1 (there, is)
        by_part (inr e) = absurd (has_not (subst (λ y. Has y) (sym e) is))

pub picked_next : (Has : TxnId → Type 0) (ids picked more : List TxnId) (k : ℕ) (d : TxnId) → k < length ids → AreInOrder ids → IsPicked Has (take k ids) picked → PicksOne Has (get_or ids k d) picked more → IsPicked Has (take (k + 1) ids) more
picked_next Has ids picked more k d within rise so_far (inl (has, e)) =
    subst (λ front. IsPicked Has front more) (sym (take_more ids k d within))
    (subst (λ xs. IsPicked Has (take k ids ++ get_or ids k d ∷ []) xs) (sym e) (picked_push Has (take k ids) picked (get_or ids k d) (λ y h. front_below ids k d y within rise h) so_far has))
picked_next Has ids picked more k d within rise so_far (inr (has_not, e)) =
    subst (λ front. IsPicked Has front more) (sym (take_more ids k d within))
    (subst (λ xs. IsPicked Has (take k ids ++ get_or ids k d ∷ []) xs) (sym e) (picked_pass Has (take k ids) picked (get_or ids k d) so_far has_not))

pub picked_all : (Has : TxnId → Type 0) (ids picked : List TxnId) (k : ℕ) → length ids ≤ k → IsPicked Has (take k ids) picked → IsPicked Has ids picked
picked_all Has ids picked k past so_far = subst (λ front. IsPicked Has front picked) (take_all k ids past) so_far

-- no id is below itself
pub not_below_itself : (id : TxnId) → id_below id id ≡ true → ⊥
not_below_itself id h = itself id.session id.number h
  where
    itself : (s n : ℕ) → (nat_lt s s || (nat_eq s s && nat_lt n n)) ≡ true → ⊥
    itself s n h = grind (arith, nat_tests)
