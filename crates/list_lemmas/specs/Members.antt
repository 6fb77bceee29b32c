-- What is in a list, by cases on the list.
use Rattle.std.specs.Prelude.{◌≡◌, ◌⊎◌, List, [], ◌∷◌}

-- the list has it
abbrev pub In : {X : Type 0} → List X → X → Type 0
In [] y = ⊥
In (x ∷ xs) y = (x ≡ y) ⊎ In xs y
