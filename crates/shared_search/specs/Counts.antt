-- How often numbers stand in lists, and what several add to a total.
use Rattle.std.specs.Prelude.{ℕ, List, [], ◌∷◌, min, nat_lt, if◌then◌else◌}

-- 1 where x is below n, else 0
abbrev pub once_below : ℕ → ℕ → ℕ
once_below x n = if nat_lt x n then 1 else 0

-- the greatest number of a word, which says that no cube was found
abbrev pub nothing : ℕ
nothing = 18446744073709551615

-- the least number of the list
abbrev pub lowest : List ℕ → ℕ
lowest [] = nothing
lowest (c ∷ cs) = min c (lowest cs)

-- the least of f of each
abbrev pub least_of : {V : Type 0} → (V → ℕ) → List V → ℕ
least_of f [] = nothing
least_of f (v ∷ vs) = min (f v) (least_of f vs)
