-- For private clauses: parts that make ready for a session that joins.
use Rattle.std.specs.Prelude.{ℕ, [], ◌∷◌, ◌++◌, Bool, false, slice_set}
use Rattle.order_check.specs.declared.remainder.Parts.{Parts}

-- parts with one session more, which is open and has nothing
abbrev pub parts_more : Parts → Parts
parts_more parts = record parts {
  base = record parts.base { marks = parts.base.marks ++ 0 ∷ [] };
  remain = parts.remain ++ [] ∷ [];
  closed = parts.closed ++ false ∷ [];
}

-- parts with this session closed, or open
abbrev pub parts_flagged : Parts → ℕ → Bool → Parts
parts_flagged parts s flag = record parts { closed = slice_set parts.closed s flag }
