-- For private clauses: what a worker brings back, or several together.
use Rattle.std.specs.Prelude.{◌≡◌, ℕ, ◌<◌, ◌≤◌, ◌⊎◌, Bool, true, false, List, [], ◌∷◌, length, All, Option, Some, None, slice_index_or, nat_eq, if◌then◌else◌}
use Rattle.list_lemmas.specs.Counts.{times}
use Rattle.polygraph.specs.declared.solving.Cube.{Cube}
use Rattle.polygraph.specs.declared.solving.Cube.TheVariants as cubes
use Rattle.shared_search.specs.declared.words.View.{View}
use Rattle.shared_search.specs.Rule.{finds, answers}

-- whether the outcome is a yes
abbrev pub is_yes : Cube → Bool
is_yes (cubes.Yes order) = true
is_yes (cubes.No tree) = false
is_yes cubes.Spent = false

-- the numbers of the cubes
abbrev pub numbers : List (ℕ × Cube) → List ℕ
numbers [] = []
numbers (e ∷ es) = e.0 ∷ numbers es

-- the numbers of the cubes whose outcome is a yes
abbrev pub yes_numbers : List (ℕ × Cube) → List ℕ
yes_numbers [] = []
yes_numbers (e ∷ es) = if is_yes e.1 then e.0 ∷ yes_numbers es else yes_numbers es

-- What seats that together have so many parts have claimed, and the outcomes that they brought: each is one that the search of its cube may give, and
-- each claimed cube has one, unless a lower cube has a yes.
pub record Worked (may : ℕ → Cube → Type 0) (count parts : ℕ) (v : View) (es : List (ℕ × Cube)) : Type 0 where
  pub count_is : v.cubes ≡ count
  pub parts_are : v.parts ≡ parts
  pub allowed : All (λ e. may e.0 e.1) es
  pub answered : (x : ℕ) → 0 < times x v.claimed → (0 < times x (numbers es)) ⊎ (v.least < x)
  pub once : (x : ℕ) → times x (numbers es) ≤ times x v.claimed
  pub inside : (x : ℕ) → times x v.done ≤ times x v.claimed
  pub yes : (x : ℕ) → times x v.found ≤ times x (yes_numbers es)

-- the seat has told that the cube is answered, and whether by a yes
abbrev pub told : View → ℕ → Bool → View
told v i has_yes = answers (if has_yes then finds v i else v) i

-- the later of two outcomes
abbrev pub later : Option Cube → Option Cube → Option Cube
later (Some cube) earlier = Some cube
later None earlier = earlier

-- the outcome of the cube among these
abbrev pub found_in : ℕ → List (ℕ × Cube) → Option Cube
found_in x [] = None
found_in x (e ∷ es) = later (found_in x es) (if nat_eq e.0 x then Some e.1 else None)

-- the table has the outcome of each cube
abbrev pub IsTable : ℕ → List (ℕ × Cube) → List (Option Cube) → Type 0
IsTable count es table = (length table ≡ count) × ((x : ℕ) → x < count → slice_index_or table x None ≡ found_in x es)
