-- For private clauses: graphs with more transactions at the end of a session.
use Rattle.std.specs.Prelude.{◌≡◌, ◌≢◌, ◌+◌, ℕ, List, length, slice_index}
use Rattle.txn.specs.declared.choices.Arc.{Arc}
use Rattle.txn.specs.Arcs.{start_of, end_of}
use Rattle.session_clocks.specs.Reach.{IsThere}

-- so many more of the session were received, and no more of another
pub record HaveMore (few many : List ℕ) (session count : ℕ) : Type 0 where
  pub sessions : length many ≡ length few
  pub one : slice_index many session ≡ slice_index few session + count
  pub others : (other : ℕ) → other ≢ session → slice_index many other ≡ slice_index few other

-- both ends of the arc are there
abbrev pub IsArcThere : List ℕ → List ℕ → Arc → Type 0
IsArcThere gone received arc = IsThere gone received (start_of arc) × IsThere gone received (end_of arc)
