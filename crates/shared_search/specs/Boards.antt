-- What contracts see of a board, which it is with its numbers of cubes and of seats, and of a seat, whose board it is and what it knows.
use Rattle.std.specs.Prelude.{◌≡◌, ℕ}
use Rattle.atomic_table.specs.Seated.{TableId}
use Rattle.shared_search.specs.declared.words.View.{View}
use Rattle.shared_search.specs.Rule.{fresh}

-- a seat of this board
abbrev pub IsSeatOf : TableId × ℕ × ℕ → TableId × View → Type 0
IsSeatOf board seat = (seat.0 ≡ board.0) × (seat.1.cubes ≡ board.1)

-- a seat of this board that has done nothing, with one part
abbrev pub IsFresh : TableId × ℕ × ℕ → TableId × View → Type 0
IsFresh board seat = (seat.0 ≡ board.0) × (seat.1 ≡ fresh board.1 1)
