-- Lists of ids in order: with the same ids they are the same.
use Rattle.std.proofs.Common.{◌≡◌, ◌∙◌, ◌⊎◌, ◌<◌, true, List, [], ◌∷◌, refl, sym, subst, inl, inr, arith}
use Rattle.txn.specs.declared.transactions.TxnId.{TxnId}
use Rattle.txn.specs.Transactions.{id_below}
use Rattle.txn.proofs.Ids.{below_is}
use Rattle.clock_choices.proofs.InLists.{In, Pairs}

-- each is below all behind it
abbrev pub Ascends : List TxnId → Type 0
Ascends ids = Pairs (λ a b. id_below a b ≡ true) ids

-- no two are below each other
never_both : (a b : TxnId) → id_below a b ≡ true → id_below b a ≡ true → ⊥
never_both a b first second = by_parts (below_is a b first) (below_is b a second)
  where
    by_parts : (a.session < b.session) ⊎ ((a.session ≡ b.session) × (a.number < b.number)) → (b.session < a.session) ⊎ ((b.session ≡ a.session) × (b.number < a.number)) → ⊥
    by_parts (inl l) (inl m) = omega (arith, l, m)
    by_parts (inl l) (inr m) = let e = m.0 in omega (arith, l, e)
    by_parts (inr l) (inl m) = let e = l.0 in omega (arith, m, e)
    by_parts (inr l) (inr m) = let e = l.1 in let f = m.1 in omega (arith, e, f)

first_same : (x y : TxnId) (xs ys : List TxnId) → Ascends (x ∷ xs) → Ascends (y ∷ ys) → In (y ∷ ys) x → In (x ∷ xs) y → x ≡ y
first_same x y xs ys up more (inl same) back = sym same
first_same x y xs ys up more (inr there) (inl same) = same
first_same x y xs ys up more (inr there) (inr back) = absurd (never_both x y (up.0 y back) (more.0 x there))

-- what is behind the first is behind it in the other list, too
rest_there : (x y : TxnId) (xs ys : List TxnId) → Ascends (x ∷ xs) → x ≡ y → (id : TxnId) → In xs id → In (y ∷ ys) id → In ys id
rest_there x y xs ys up same id was (inr there) = there
rest_there x y xs ys up same id was (inl is) = let below = subst (λ (one : TxnId). id_below x one ≡ true) (sym (same ∙ is)) (up.0 id was) in absurd (never_both x x below below)

pub same_ids : (xs ys : List TxnId) → Ascends xs → Ascends ys → ((id : TxnId) → In xs id → In ys id) → ((id : TxnId) → In ys id → In xs id) → xs ≡ ys
same_ids [] [] up more there back = refl
same_ids [] (y ∷ ys) up more there back = absurd (back y (inl refl))
same_ids (x ∷ xs) [] up more there back = absurd (there x (inl refl))
same_ids (x ∷ xs) (y ∷ ys) up more there back =
    let same = first_same x y xs ys up more (there x (inl refl)) (back y (inl refl)) in
    let rest = same_ids xs ys up.1 more.1 (λ id was. rest_there x y xs ys up same id was (there id (inr was))) (λ id was. rest_there y x ys xs more (sym same) id was (back id (inr was))) in
    λ i. same i ∷ rest i
