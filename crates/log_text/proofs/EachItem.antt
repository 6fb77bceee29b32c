-- The items of a list, one after another.
use Rattle.std.proofs.Common.{◌≡◌, ℕ, zero, suc, ◌+◌, ◌<◌, List, [], ◌∷◌, ◌++◌, length, take, get_or, Option, Some, None, option_map, option_and_then, refl, sym, ap, ◌∙◌, arith}
use Rattle.std.proofs.lemmas.List.{take_more}
use Rattle.serde_json.specs.Data.{Data, null, boolean, number, string, array, object}
use Rattle.serde_json.specs.Find.{as_array}
use Rattle.serde_json.specs.View.{view, items_view}
use Rattle.serde_json.specs.declared.value.Value.{Value}
use Rattle.log_text.specs.Items.{each_of, list_of}

-- one more at the end
abbrev joined : {X : Type 0} → Option (List X) → Option X → Option (List X)
joined xs x = option_and_then (λ ys. option_map (λ y. ys ++ y ∷ []) x) xs

joined_behind : {X : Type 0} (first : Option X) (rest : Option (List X)) (last : Option X)
    → option_and_then (λ x. option_map (λ xs. x ∷ xs) (joined rest last)) first ≡ joined (option_and_then (λ x. option_map (λ xs. x ∷ xs) rest) first) last
joined_behind None rest last = refl
joined_behind (Some x) None last = refl
joined_behind (Some x) (Some xs) None = refl
joined_behind (Some x) (Some xs) (Some y) = refl

each_of-push : {X : Type 0} (form : Data → Option X) (vs : List Value) (v : Value) → each_of form (items_view (vs ++ v ∷ [])) ≡ joined (each_of form (items_view vs)) (form (view v))
each_of-push form [] v = alone (form (view v))
  where
    alone : {X : Type 0} (x : Option X) → option_and_then (λ y. Some (y ∷ [])) x ≡ option_map (λ y. y ∷ []) x
    alone None = refl
    alone (Some x) = refl
each_of-push form (u ∷ vs) v = ap (λ rest. option_and_then (λ x. option_map (λ xs. x ∷ xs) rest) (form (view u))) (each_of-push form vs v) ∙ joined_behind (form (view u)) (each_of form (items_view vs)) (form (view v))

-- one more item is in the form
pub each_of-more : {X : Type 0} (form : Data → Option X) (vs : List Value) (i : ℕ) (v : Value) (xs ys : List X) (x : X) → each_of form (items_view (take i vs)) ≡ Some xs → i < length vs → v ≡ get_or vs i v
    → form (view v) ≡ Some x → ys ≡ xs ++ x ∷ [] → each_of form (items_view (take (i + 1) vs)) ≡ Some ys
each_of-more form vs i v xs ys x before within is found new =
    let here = ap (λ us. each_of form (items_view us)) (take_more vs i v within ∙ ap (λ u. take i vs ++ u ∷ []) (sym is)) in
    here ∙ each_of-push form (take i vs) v ∙ rw (before, found) (ap Some (sym new))

-- one that isn't leaves none
pub each_of-none : {X : Type 0} (form : Data → Option X) (vs : List Value) (i : ℕ) (v : Value) → i < length vs → v ≡ get_or vs i v → None ≡ form (view v) → None ≡ each_of form (items_view vs)
each_of-none form [] i v within is found = absurd (omega arith)
each_of-none form (u ∷ vs) zero v within is found =
    let first : None ≡ form (view u) = found ∙ ap (λ w. form (view w)) is in
    ap (option_and_then (λ x. option_map (λ xs. x ∷ xs) (each_of form (items_view vs)))) first
each_of-none form (u ∷ vs) (suc i) v within is found =
    none_behind (form (view u)) ∙ ap (λ rest. option_and_then (λ x. option_map (λ xs. x ∷ xs) rest) (form (view u))) (each_of-none form vs i v (omega arith) is found)
  where
    none_behind : {X : Type 0} (first : Option X) → None ≡ option_and_then (λ x. option_map (λ xs. x ∷ xs) None) first
    none_behind None = refl
    none_behind (Some x) = refl

-- the items of an array
pub list_of-array : {X : Type 0} (form : Data → Option X) (given : Data) → list_of form given ≡ option_and_then (each_of form) (as_array given)
list_of-array form null = refl
list_of-array form (boolean b) = refl
list_of-array form (number n) = refl
list_of-array form (string s) = refl
list_of-array form (array items) = refl
list_of-array form (object ms) = refl

-- the items of an array of values, gone over as ws, where one of them isn't in the form
pub list_of-none : {X : Type 0} (form : Data → Option X) (given : Data) (vs ws : List Value) (i : ℕ) (v : Value) → Some (items_view vs) ≡ as_array given → ws ≡ vs → i < length ws → v ≡ get_or ws i v → None ≡ form (view v) → None ≡ list_of form given
list_of-none form given vs ws i v items same within is found =
    each_of-none form ws i v within is found ∙ ap (λ us. each_of form (items_view us)) same ∙ ap (option_and_then (each_of form)) items ∙ sym (list_of-array form given)
