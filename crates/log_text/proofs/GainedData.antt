-- Lists that gain values of some data.
use Rattle.std.proofs.Common.{◌≡◌, ℕ, List, [], ◌∷◌, ◌++◌, Vec, Global, map, take, length, get_or, ◌+◌, ◌<◌, ◌≤◌, sym, ap, subst, ◌∙◌, append_assoc}
use Rattle.std.proofs.lemmas.List.{take_all, map_more, map-append}
use Rattle.serde_json.specs.Data.{Data, array}
use Rattle.serde_json.specs.View.{view, items_of}
use Rattle.serde_json.specs.declared.value.Value.{Value, Array}
use Rattle.serde_json.proofs.Views.{view-Array}
use Rattle.log_text.specs.Saved.{GainsData, list_data}
use Rattle.log_text.specs.Told.{array_data}

-- one value more
pub gains_value : (old new : List Value) (v : Value) (d : Data) → new ≡ old ++ v ∷ [] → view v ≡ d → GainsData old new (d ∷ [])
gains_value old new v d is seen = ap (λ (vs : List Value). map view vs) is ∙ map-append view old (v ∷ []) ∙ ap (λ e. map view old ++ e ∷ []) seen

-- some values, and then more
pub gains_then : (us vs ws : List Value) (xs ys : List Data) → GainsData us vs xs → GainsData vs ws ys → GainsData us ws (xs ++ ys)
gains_then us vs ws xs ys first next = next ∙ ap (λ (ds : List Data). ds ++ ys) first ∙ append_assoc (map view us) xs ys

-- one value more: a list of values
pub gains_list : (old new : List Value) (v : Vec Value Global) (ds : List Data) → map view v.items ≡ ds → new ≡ old ++ Array v ∷ [] → GainsData old new (array_data ds ∷ [])
gains_list old new v ds seen is = gains_value old new (Array v) (array_data ds) is (view-Array v ∙ ap (λ (es : List Data). array (items_of es)) seen)

-- one value more: a list that was empty and gained values
pub gains_filled : (old new start : List Value) (v : Vec Value Global) (ds : List Data) → start ≡ [] → GainsData start v.items ds → new ≡ old ++ Array v ∷ [] → GainsData old new (array_data ds ∷ [])
gains_filled old new start v ds none gains is = gains_list old new v ds (gains ∙ ap (λ (vs : List Value). map view vs ++ ds) none) is

-- the value of one more element
pub gains_more : {X : Type 0} (form : X → Data) (us vs ws : List Value) (xs : List X) (i : ℕ) (d : X) → GainsData us vs (map form (take i xs)) → i < length xs → GainsData vs ws (form (get_or xs i d) ∷ []) → GainsData us ws (map form (take (i + 1) xs))
gains_more form us vs ws xs i d before within more = subst (λ (ds : List Data). GainsData us ws ds) (sym (map_more form xs i d within)) (gains_then us vs ws (map form (take i xs)) (form (get_or xs i d) ∷ []) before more)

-- the same in a list that was empty
pub have_more : {X : Type 0} (form : X → Data) (vs ws : List Value) (xs : List X) (i : ℕ) (d : X) → map view vs ≡ map form (take i xs) → i < length xs → GainsData vs ws (form (get_or xs i d) ∷ []) → map view ws ≡ map form (take (i + 1) xs)
have_more form vs ws xs i d h within more = more ∙ ap (λ (ds : List Data). ds ++ form (get_or xs i d) ∷ []) h ∙ sym (map_more form xs i d within)

pub gains_elements : {X : Type 0} (form : X → Data) (old new : List Value) (v : Vec Value Global) (xs : List X) (i : ℕ) → map view v.items ≡ map form (take i xs) → length xs ≤ i → new ≡ old ++ Array v ∷ [] → GainsData old new (list_data form xs ∷ [])
gains_elements {X = X} form old new v xs i h all is = gains_list old new v (map form xs) (h ∙ ap (λ (ys : List X). map form ys) (take_all i xs all)) is
