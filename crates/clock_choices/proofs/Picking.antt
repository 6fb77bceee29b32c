-- What is picked from a list.
use Rattle.std.proofs.Common.{◌↔◌, ℕ, ◌+◌, ◌<◌, List, [], ◌∷◌, ◌++◌, length, get_or, take, sym, subst, inl, inr, Contains}
use Rattle.std.specs.List.{AllPairs}
use Rattle.std.proofs.lemmas.List.{take_more}
use Rattle.clock_choices.specs.Picks.{Picks, PicksOne, no_more, picked, passed}
use Rattle.clock_choices.proofs.InLists.{In, Pairs, contains_from_in, in_from_contains, pairs_of, pairs_to}

module _ {X : Type 0} (Has : X → Type 0) where
  push_picked : {xs ys : List X} (x : X) → Picks Has xs ys → Has x → Picks Has (xs ++ x ∷ []) (ys ++ x ∷ [])
  push_picked x no_more has = picked has no_more
  push_picked x (picked is rest) has = picked is (push_picked x rest has)
  push_picked x (passed not rest) has = passed not (push_picked x rest has)

  push_passed : {xs ys : List X} (x : X) → Picks Has xs ys → (¬ Has x) → Picks Has (xs ++ x ∷ []) ys
  push_passed x no_more lacks = passed lacks no_more
  push_passed x (picked is rest) lacks = picked is (push_passed x rest lacks)
  push_passed x (passed not rest) lacks = passed not (push_passed x rest lacks)

  -- one more item is looked at
  pub picks_more : (xs ys new : List X) (k : ℕ) (d : X) → k < length xs → Picks Has (take k xs) ys → PicksOne Has (get_or xs k d) ys new → Picks Has (take (k + 1) xs) new
  picks_more xs ys new k d within picks (inl (has, is)) = subst (λ (front : List X). Picks Has front new) (sym (take_more xs k d within)) (subst (λ (some : List X). Picks Has (take k xs ++ get_or xs k d ∷ []) some) (sym is) (push_picked (get_or xs k d) picks has))
  picks_more xs ys new k d within picks (inr (lacks, is)) = subst (λ (front : List X). Picks Has front new) (sym (take_more xs k d within)) (subst (λ (some : List X). Picks Has (take k xs ++ get_or xs k d ∷ []) some) (sym is) (push_passed (get_or xs k d) picks lacks))

  in_both : {xs ys : List X} → Picks Has xs ys → (x : X) → In ys x → In xs x × Has x
  in_both no_more x there = absurd there
  in_both (picked is rest) x (inl same) = (inl same, subst Has same is)
  in_both (picked is rest) x (inr there) = let both = in_both rest x there in (inr both.0, both.1)
  in_both (passed not rest) x there = let both = in_both rest x there in (inr both.0, both.1)

  in_picked : {xs ys : List X} → Picks Has xs ys → (x : X) → In xs x → Has x → In ys x
  in_picked no_more x there has = absurd there
  in_picked (picked is rest) x (inl same) has = inl same
  in_picked (picked is rest) x (inr there) has = inr (in_picked rest x there has)
  in_picked (passed not rest) x (inl same) has = absurd (not (subst Has (sym same) has))
  in_picked (passed not rest) x (inr there) has = in_picked rest x there has

  pub picks_members : (xs ys : List X) → Picks Has xs ys → (x : X) → Contains ys x ↔ (Contains xs x × Has x)
  picks_members xs ys picks x = (
    (λ there. let both = in_both picks x (in_from_contains ys x there) in (contains_from_in xs x both.0, both.1)),
    (λ both. contains_from_in ys x (in_picked picks x (in_from_contains xs x both.0) both.1)),
  )

  pairs_stay : (R : X → X → Type 0) {xs ys : List X} → Picks Has xs ys → Pairs R xs → Pairs R ys
  pairs_stay R no_more pairs = pairs
  pairs_stay R (picked is rest) pairs = (λ y there. pairs.0 y (in_both rest y there).0, pairs_stay R rest pairs.1)
  pairs_stay R (passed not rest) pairs = pairs_stay R rest pairs.1

  pub picks_pairs : (R : X → X → Type 0) (xs ys : List X) → Picks Has xs ys → AllPairs R xs → AllPairs R ys
  picks_pairs R xs ys picks pairs = pairs_to R ys (pairs_stay R picks (pairs_of R xs pairs))
