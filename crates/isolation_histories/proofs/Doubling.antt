-- Flags are told twice, one after another.
use Rattle.std.proofs.Common.{◌≡◌, ℕ, ◌+◌, ◌<◌, Bool, List, [], ◌∷◌, ◌++◌, length, get_or, take, refl, sym, ap, ◌∙◌}
use Rattle.std.proofs.lemmas.List.{take_more}
use Rattle.isolation_histories.specs.Logged.{doubled}

doubled_append : (front back : List Bool) → doubled (front ++ back) ≡ doubled front ++ doubled back
doubled_append [] back = refl
doubled_append (flag ∷ front) back = ap (λ rest. flag ∷ flag ∷ rest) (doubled_append front back)

again : (made : List Bool) (flag : Bool) → (made ++ flag ∷ []) ++ flag ∷ [] ≡ made ++ flag ∷ flag ∷ []
again [] flag = refl
again (one ∷ made) flag = ap (λ rest. one ∷ rest) (again made flag)

-- the next flag
pub doubled_next : (flags : List Bool) (k : ℕ) (d : Bool) (made once twice : List Bool) → k < length flags → made ≡ doubled (take k flags) → once ≡ made ++ get_or flags k d ∷ [] → twice ≡ once ++ get_or flags k d ∷ [] → twice ≡ doubled (take (k + 1) flags)
doubled_next flags k d made once twice within so_far first second =
    second
    ∙ ap (λ xs. xs ++ get_or flags k d ∷ []) first
    ∙ again made (get_or flags k d)
    ∙ ap (λ xs. xs ++ get_or flags k d ∷ get_or flags k d ∷ []) so_far
    ∙ sym (ap doubled (take_more flags k d within) ∙ doubled_append (take k flags) (get_or flags k d ∷ []))
