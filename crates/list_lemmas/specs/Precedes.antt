-- What stands before what in a list.
use Rattle.std.specs.Prelude.{◌≡◌, ℕ, ◌<◌, List, slice_get, Some}

-- the one stands in the list at a place before a place of the other
abbrev pub Precedes : {X : Type 0} → List X → X → X → Type 0
Precedes xs earlier later = (i j : ℕ) × (i < j) × (slice_get xs i ≡ Some earlier) × (slice_get xs j ≡ Some later)
