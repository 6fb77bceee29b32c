-- For private clauses: the marks to which a graph can be taken back.
use Rattle.std.specs.Prelude.{◌≤◌, ℕ, ◌+◌, ◌-◌, ◌*◌, ⊤, List, [], ◌∷◌, Vec, length, take, drop, map, reverse, All, slice_index}
use Rattle.std.specs.declared.alloc.Global.{Global}
use Rattle.txn.specs.declared.transactions.TxnId.{TxnId}
use Rattle.txn.specs.declared.choices.Arc.{Arc}
use Rattle.session_clocks.specs.declared.trail.Mark.{Mark}
use Rattle.session_clocks.specs.declared.trail.Saved.{Saved}
use Rattle.session_clocks.specs.declared.trail.Trail.{Trail}
use Rattle.session_clocks.specs.Clocks.{AreFirsts, AreCounts, IsKept}
use Rattle.session_clocks.specs.Reach.{Reaches}
use Rattle.session_clocks.specs.SavedNumbers.{place_in, IsWithin, had}

-- what contracts see of marks, which are kept in the order in which they were set
abbrev pub marks_of : List Mark → List ℕ
marks_of marks = map (λ mark. mark.arcs) (reverse marks)

-- the number that a transaction's row has for a session, where lines have these numbers
abbrev pub clock_in : List ℕ → (ℕ → ℕ → ℕ) → TxnId → ℕ → ℕ
clock_in gone numbers id session = numbers id.session ((id.number - slice_index gone id.session) * length gone + session)

-- with what was saved behind a mark put back, the numbers say what the arcs up to the mark make, mark by mark, the last first
abbrev pub AreMarked : (List Arc → (ℕ → ℕ → ℕ) → Type 0) → (Mark → ℕ) → List Arc → (ℕ → ℕ → ℕ) → List Saved → List Mark → Type 0
AreMarked Say place arcs numbers saved [] = ⊤
AreMarked Say place arcs numbers saved (mark ∷ marks) = (mark.arcs ≤ length arcs) × (place mark ≤ length saved) × Say (take mark.arcs arcs) (had (drop (place mark) saved) numbers)
    × AreMarked Say place (take mark.arcs arcs) (had (drop (place mark) saved) numbers) (take (place mark) saved) marks

-- what was saved of one kind of lines, which have those places
pub record IsTrailOf (Say : List Arc → (ℕ → ℕ → ℕ) → Type 0) (place : Mark → ℕ) (arcs : List Arc) (lines : List (Vec ℕ Global)) (saved : List Saved) (marks : List Mark) : Type 0 where
  pub within : All (IsWithin lines) saved
  pub marked : AreMarked Say place arcs (place_in lines) saved marks

-- numbers are the first ones that are reached by these arcs
abbrev pub SayFirsts : List ℕ → List ℕ → List Arc → (ℕ → ℕ → ℕ) → Type 0
SayFirsts gone received arcs numbers = AreFirsts gone received (Reaches gone received arcs) (clock_in gone numbers)

-- numbers are how many reach
abbrev pub SayCounts : List ℕ → List ℕ → List Arc → (ℕ → ℕ → ℕ) → Type 0
SayCounts gone received arcs numbers = AreCounts gone received (Reaches gone received arcs) (clock_in gone numbers)

-- what was saved of both
pub record IsTrail (gone received : List ℕ) (arcs : List Arc) (first count : List (Vec ℕ Global)) (trail : Trail) : Type 0 where
  pub firsts : IsTrailOf (SayFirsts gone received) (λ mark. mark.first) arcs first trail.first.items (reverse trail.marks.items)
  pub counts : IsTrailOf (SayCounts gone received) (λ mark. mark.count) arcs count trail.count.items (reverse trail.marks.items)

-- a graph and its marks
pub record IsMarkedGraph (gone received : List ℕ) (arcs : List Arc) (first count : List (Vec ℕ Global)) (trail : Trail) : Type 0 where
  pub kept : IsKept gone received arcs first count
  pub marked : IsTrail gone received arcs first count trail
