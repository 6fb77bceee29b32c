-- What the seats of a board know, and what ties it to the board's words, at every moment.
use Rattle.std.specs.Prelude.{◌≡◌, ℕ, ◌+◌, ◌-◌, ◌<◌, ◌≤◌, ◌⊎◌, [], ◌∷◌, ◌++◌, length, min, max}
use mathlib.Core.Option.{some}
use lib.ListN.{get_elem?}
use Rattle.atomic_table.specs.Table.{State, Me, Step}
use Rattle.list_lemmas.specs.Counts.{times, total}
use Rattle.shared_search.specs.declared.words.View.{View}
use Rattle.shared_search.specs.Counts.{once_below, nothing, lowest, least_of}

-- a seat that has done nothing
abbrev pub fresh : ℕ → ℕ → View
fresh cubes parts = record { cubes = cubes; parts = parts; claimed = []; found = []; done = []; least = nothing; over = 0; after = 0 }

-- the seat has claimed the cube
abbrev pub claims : View → ℕ → View
claims v i = record { cubes = v.cubes; parts = v.parts; claimed = v.claimed ++ i ∷ []; found = v.found; done = v.done; least = v.least; over = v.over; after = i + 1 }

-- the seat was told that no cube is left
abbrev pub ends : View → View
ends v = record { cubes = v.cubes; parts = v.parts; claimed = v.claimed; found = v.found; done = v.done; least = v.least; over = v.over + 1; after = v.after }

-- the seat has told that the cube has a yes
abbrev pub finds : View → ℕ → View
finds v i = record { cubes = v.cubes; parts = v.parts; claimed = v.claimed; found = v.found ++ i ∷ []; done = v.done; least = min v.least i; over = v.over; after = v.after }

-- the seat has seen that this is the least cube with a yes
abbrev pub sees : View → ℕ → View
sees v n = record { cubes = v.cubes; parts = v.parts; claimed = v.claimed; found = v.found; done = v.done; least = n; over = v.over; after = v.after }

-- the seat has told that the cube is answered
abbrev pub answers : View → ℕ → View
answers v i = record { cubes = v.cubes; parts = v.parts; claimed = v.claimed; found = v.found; done = v.done ++ i ∷ []; least = v.least; over = v.over; after = v.after }

-- the seat has given one part away
abbrev pub gives_one : View → View
gives_one v = record { cubes = v.cubes; parts = v.parts - 1; claimed = v.claimed; found = v.found; done = v.done; least = v.least; over = v.over; after = v.after }

-- what two seats know together
abbrev pub both_of : View → View → View
both_of v w =
    record {
      cubes = v.cubes;
      parts = v.parts + w.parts;
      claimed = v.claimed ++ w.claimed;
      found = v.found ++ w.found;
      done = v.done ++ w.done;
      least = min v.least w.least;
      over = v.over + w.over;
      after = max v.after w.after;
    }

-- What a seat knows fits the words: it was told that no cube is left at most once for each of its parts, and only where none is; it has seen
-- no less than the least; it has counted no cube as answered that it hasn't claimed, and none twice; a seat without parts knows nothing.
pub record Fits (cubes next least : ℕ) (v : View) : Type 0 where
  pub cubes_are : 0 < v.parts → v.cubes ≡ cubes
  pub room : v.over ≤ v.parts
  pub ended : 0 < v.over → cubes ≤ next
  pub seen : least ≤ v.least
  pub inside : (x : ℕ) → times x v.done ≤ times x v.claimed
  pub behind : v.after ≤ next
  pub idle : v.parts ≡ 0 → (v.claimed ≡ []) × (v.found ≡ []) × (v.done ≡ [])

-- The rule of a board with so many cubes and seats: all seats together have claimed the numbers below the smaller of `next` and `cubes`, each
-- once; `least` is the least cube that any seat found; `done` counts what all seats have told.
pub record Kept (cubes seats : ℕ) (s : State (Unit {0}) View) : Type 0 where
  pub next : ℕ
  pub least : ℕ
  pub done : ℕ
  pub words : s.words ≡ next ∷ least ∷ done ∷ []
  pub few : (cubes ≤ 281474976710656) × (seats ≤ 16)
  pub parts : total (λ (v : View). v.parts) s.views ≡ seats
  pub drawn : (x : ℕ) → total (λ (v : View). times x v.claimed) s.views ≡ once_below x (min next cubes)
  pub drawn_count : total (λ (v : View). length v.claimed) s.views ≡ min next cubes
  pub beyond : next ≡ min next cubes + total (λ (v : View). v.over) s.views
  pub least_is : least ≡ least_of (λ (v : View). lowest v.found) s.views
  pub done_is : done ≡ total (λ (v : View). length v.done) s.views
  pub each : (id : ℕ) (v : View) → get_elem? s.views id ≡ some v → Fits cubes next least v

-- what contracts of a step see of a seat: what it knows, and the places that it holds, which are none
abbrev pub Known : Type 0
Known = Me (Unit {0}) View

-- a claim: the number found was claimed, or is that of no cube
abbrev pub claimed_after : Step (Unit {0}) → Known → ℕ → Known → Type 0
claimed_after s m n m' = (m'.1 ≡ m.1) × ((n < m.0.cubes) × (m.0.after ≤ n) × (m'.0 ≡ claims m.0 n) ⊎ (m.0.cubes ≤ n) × (m'.0 ≡ ends m.0))

-- a yes is told
abbrev pub found_after : Step (Unit {0}) → Known → ℕ → Known → Type 0
found_after s m n m' = (m'.1 ≡ m.1) × (m'.0 ≡ finds m.0 s.first)

-- a look at the least cube with a yes: it never rises
abbrev pub looked_after : Step (Unit {0}) → Known → ℕ → Known → Type 0
looked_after s m n m' = (m'.1 ≡ m.1) × (m'.0 ≡ sees m.0 n) × (n ≤ m.0.least)

-- an answer to the cube is counted
abbrev pub done_after : ℕ → Step (Unit {0}) → Known → ℕ → Known → Type 0
done_after i s m n m' = (m'.1 ≡ m.1) × (m'.0 ≡ answers m.0 i)

-- What a seat with all parts learns: where it was told that no cube is left, each was claimed once; and no cube that it saw as having a yes is lower
-- than the least that was found.
abbrev pub Whole : View → Type 0
Whole v = (0 < v.over → (x : ℕ) → times x v.claimed ≡ once_below x v.cubes) × (lowest v.found ≤ v.least)

-- a seat with all parts looks back
abbrev pub settled_after : Step (Unit {0}) → Known → ℕ → Known → Type 0
settled_after s m n m' = (m' ≡ m) × Whole m.0
