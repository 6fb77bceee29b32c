-- For private clauses: what is picked before trees are joined.
use Rattle.std.specs.Prelude.{◌≡◌, ℕ, ◌<◌, ◌⊎◌, ⊤, Bool, true, false, List, [], ◌∷◌, ◌++◌, map, length, All, Option, Some, None, IsSome}
use Rattle.atomic_table.specs.Seated.{TableId}
use Rattle.txn.specs.declared.choices.Choice.{Choice}
use Rattle.refutation.specs.declared.trees.Tree.{Tree}
use Rattle.refutation.specs.Joining.{IsJoin}
use Rattle.polygraph.specs.declared.solving.Cube.{Cube}
use Rattle.polygraph.specs.declared.solving.Answer.{Answer}
use Rattle.polygraph.specs.declared.solving.Answer.TheVariants as answers
use Rattle.shared_search.specs.declared.picking.Pick.{Pick}
use Rattle.shared_search.specs.declared.picking.Pick.TheVariants as picks
use Rattle.shared_search.specs.declared.workers.Part.{Part}
use Rattle.shared_search.specs.Rule.{Whole}
use Rattle.shared_search.specs.Boards.{IsSeatOf}
use Rattle.shared_search.specs.Worked.{Worked, IsTable}
use Rattle.shared_search.specs.Picks.{first_yes, has_spent, trees, AreOutcomes}

-- a worker of the board brings back this, unless memory was refused
abbrev pub IsPart : (ℕ → Cube → Type 0) → TableId × ℕ × ℕ → Part → Type 0
IsPart may board part = IsSeatOf board part.seat × (part.refused ≡ false → (0 < part.seat.1.over) × Worked may board.1 1 part.seat.1 part.outcomes.items)

-- all workers of a board with so many cubes have brought this together
pub record IsBrought (may : ℕ → Cube → Type 0) (count : ℕ) (part : Part) : Type 0 where
  pub parts : ℕ
  pub worked : Worked may count parts part.seat.1 part.outcomes.items
  pub over : 0 < part.seat.1.over
  pub whole : Whole part.seat.1

-- this is picked of the outcomes
abbrev pub IsGathered : List Cube → Pick → Type 0
IsGathered outcomes (picks.Yes order) = first_yes outcomes ≡ Some order
IsGathered outcomes (picks.No found) = (first_yes outcomes ≡ None) × (has_spent outcomes ≡ false) × (found.items ≡ trees outcomes)
IsGathered outcomes picks.Spent = (first_yes outcomes ≡ None) × (has_spent outcomes ≡ true)

-- this is picked of outcomes, one of each cube, or of each up to a yes
abbrev pub Gathered : (ℕ → Cube → Type 0) → ℕ → Pick → Type 0
Gathered may count pick = (outcomes : List Cube) × AreOutcomes may count outcomes × IsGathered outcomes pick

-- this is picked of the first outcomes of the table: of all, or of those up to a yes
abbrev pub GatheredOf : List (Option Cube) → Pick → Type 0
GatheredOf table pick =
    (outcomes : List Cube) × (rest : List (Option Cube)) × (table ≡ map Some outcomes ++ rest) × ((rest ≡ []) ⊎ IsSome (first_yes outcomes)) × IsGathered outcomes pick

-- before the first yes no place is empty
abbrev pub NoGap : List (Option Cube) → Type 0
NoGap table = (outcomes : List Cube) (o : Option Cube) (rest : List (Option Cube)) → table ≡ map Some outcomes ++ o ∷ rest → first_yes outcomes ≡ None → IsSome o

-- so many trees were picked, if any
abbrev pub HasTrees : ℕ → Pick → Type 0
HasTrees count (picks.Yes order) = ⊤
HasTrees count (picks.No found) = length found.items ≡ count
HasTrees count picks.Spent = ⊤

-- the answer, once the trees that were picked are joined
abbrev pub IsJoined : List Choice → Pick → Answer → Type 0
IsJoined choices (picks.Yes order) (answers.Yes found) = found ≡ order
IsJoined choices (picks.No found) (answers.No tree) = IsJoin choices found.items tree
IsJoined choices picks.Spent answers.Spent = ⊤
IsJoined choices pick answer = ⊥

-- the outcomes seen so far are in the table; the others are still to come
pub record IsFilled (count : ℕ) (all rest : List (ℕ × Cube)) (filled : List (Option Cube)) : Type 0 where
  pub seen : List (ℕ × Cube)
  pub split : all ≡ seen ++ rest
  pub table : IsTable count seen filled
  pub below : All (λ e. e.0 < count) rest

-- the table is walked up to the rest, and no yes was met
pub record IsWalked (whole rest : List (Option Cube)) (spent : Bool) (found : List Tree) : Type 0 where
  pub outcomes : List Cube
  pub split : whole ≡ map Some outcomes ++ rest
  pub none : first_yes outcomes ≡ None
  pub spent_is : spent ≡ has_spent outcomes
  pub found_is : found ≡ trees outcomes
