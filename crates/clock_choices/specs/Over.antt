-- For private clauses: graphs of what remains of parts.
use Rattle.std.specs.Prelude.{◌≡◌, ℕ, List, slice_index}
use Rattle.order_check.specs.declared.remainder.Parts.{Parts}
use Rattle.order_check.specs.Based.{mark_of, received_count}

-- of each session as many are gone, and as many were received, as of the parts
pub record IsOver (parts : Parts) (gone received : List ℕ) : Type 0 where
  pub marks : (s : ℕ) → slice_index gone s ≡ mark_of parts s
  pub counts : (s : ℕ) → slice_index received s ≡ received_count parts s
