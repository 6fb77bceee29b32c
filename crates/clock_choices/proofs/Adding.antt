-- Lists by key that get more, and what is added to one another.
use Rattle.std.proofs.Common.{◌≡◌, ◌≢◌, ◌⊎◌, ℕ, ◌+◌, ◌<◌, List, [], ◌∷◌, ◌++◌, Vec, Global, length, get_or, take, sym, ap, subst, ◌∙◌, inl, inr, arith, Contains}
use Rattle.std.proofs.lemmas.Bool.{cases_eq}
use Rattle.std.proofs.lemmas.List.{take_more}
use Rattle.std.proofs.lemmas.List.Elements.{Contains-append_left, Contains-push, Contains-push_cases}
use Rattle.std.specs.BTreeMap.{BTreeMap}
use Rattle.clock_choices.specs.Adds.{Adds, Among}
use Rattle.clock_choices.specs.Lists.{list_at}

-- nothing is added
pub adds_none : {X : Type 0} (Old Is : X → Type 0) → ((x : X) → ¬ Is x) → Adds Old Old Is
adds_none Old Is none = record { each = λ x is. inl is; stay = λ x is. is; all = λ x is. absurd (none x is) }

-- one after another
pub adds_both : {X : Type 0} (Old Mid New Is Also Then : X → Type 0) → Adds Old Mid Is → Adds Mid New Also → ((x : X) → Then x → Is x ⊎ Also x) → ((x : X) → Is x ⊎ Also x → Then x) → Adds Old New Then
adds_both Old Mid New Is Also Then first second down up = record {
  each = λ x is. elim (second.each x is) [
    | inr also ↦ inr (up x (inr also))
    | inl mid ↦ elim (first.each x mid) [ inl was ↦ inl was | inr such ↦ inr (up x (inl such)) ]
  ];
  stay = λ x was. second.stay x (first.stay x was);
  all = λ x is. elim (down x is) [ inl such ↦ second.stay x (first.all x such) | inr also ↦ second.all x also ];
}

pub adds_same : {X : Type 0} (Old New Is Then : X → Type 0) → Adds Old New Is → ((x : X) → Then x → Is x) → ((x : X) → Is x → Then x) → Adds Old New Then
adds_same Old New Is Then adds down up = record {
  each = λ x is. elim (adds.each x is) [ inl was ↦ inl was | inr such ↦ inr (up x such) ];
  stay = adds.stay;
  all = λ x is. adds.all x (down x is);
}

-- what goes with one of the first items, and with the next
module _ {X Y : Type 0} (Goes : Y → X → Type 0) (items : List Y) (k : ℕ) (d : Y) (within : k < length items) where
  among_down : (x : X) → Among Goes (take (k + 1) items) x → Among Goes (take k items) x ⊎ Goes (get_or items k d) x
  among_down x (y, there, goes) = elim (Contains-push_cases (take k items) (get_or items k d) y (subst (λ (some : List Y). Contains some y) (take_more items k d within) there)) [
    | inl before ↦ inl (y, before, goes)
    | inr same ↦ inr (subst (λ (one : Y). Goes one x) (sym same) goes)
  ]

  among_up : (x : X) → Among Goes (take k items) x ⊎ Goes (get_or items k d) x → Among Goes (take (k + 1) items) x
  among_up x (inl (y, there, goes)) = (y, subst (λ (some : List Y). Contains some y) (sym (take_more items k d within)) (Contains-append_left (take k items) (get_or items k d ∷ []) y there), goes)
  among_up x (inr goes) = (get_or items k d, subst (λ (some : List Y). Contains some (get_or items k d)) (sym (take_more items k d within)) (Contains-push (take k items) (get_or items k d)), goes)

  pub adds_more : (Old Mid New : X → Type 0) → Adds Old Mid (Among Goes (take k items)) → Adds Mid New (Goes (get_or items k d)) → Adds Old New (Among Goes (take (k + 1) items))
  adds_more Old Mid New first second = adds_both Old Mid New (Among Goes (take k items)) (Goes (get_or items k d)) (Among Goes (take (k + 1) items)) first second among_down among_up

pub among_none : {X Y : Type 0} (Goes : Y → X → Type 0) (x : X) → ¬ Among Goes [] x
among_none Goes x (y, there, goes) = omega (arith, there.1)

-- an item at the end of a key's list
module _ {X : Type 0} (old mid new : BTreeMap ℕ (Vec X Global)) (key : ℕ) (item : X) (list more : List X) (taken : list ≡ list_at old key) (apart : (other : ℕ) → other ≢ key → list_at mid other ≡ list_at old other)
    (pushed : more ≡ list ++ item ∷ []) (put : list_at new key ≡ more) (others : (other : ℕ) → other ≢ key → list_at new other ≡ list_at mid other) where
  pub list_added : (other : ℕ) → Adds (Contains (list_at old other)) (Contains (list_at new other)) (λ one. (one ≡ item) × (other ≡ key))
  list_added other = elim (cases_eq other key) [
    | inr ne ↦
        let is : list_at new other ≡ list_at old other = others other ne ∙ apart other ne in
        record {
          each = λ one there. inl (subst (λ (some : List X). Contains some one) is there);
          stay = λ one there. subst (λ (some : List X). Contains some one) (sym is) there;
          all = λ one such. absurd (ne such.1);
        }
    | inl same ↦
        let is : list_at new other ≡ list_at old other ++ item ∷ [] = ap (λ (k : ℕ). list_at new k) same ∙ put ∙ pushed ∙ ap (λ (some : List X). some ++ item ∷ []) (taken ∙ ap (λ (k : ℕ). list_at old k) (sym same)) in
        record {
          each = λ one there. elim (Contains-push_cases (list_at old other) item one (subst (λ (some : List X). Contains some one) is there)) [ inl was ↦ inl was | inr at ↦ inr (sym at, same) ];
          stay = λ one there. subst (λ (some : List X). Contains some one) (sym is) (Contains-append_left (list_at old other) (item ∷ []) one there);
          all = λ one such. subst (λ (x : X). Contains (list_at new other) x) (sym such.0) (subst (λ (some : List X). Contains some item) (sym is) (Contains-push (list_at old other) item));
        }
  ]
