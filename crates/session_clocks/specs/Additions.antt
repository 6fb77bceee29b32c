-- What an arc that is added answers, and which transactions it tells.
use Rattle.std.specs.Prelude.{◌≡◌, ◌⊎◌, ℕ, List, [], ◌∷◌, ◌++◌, Contains}
use Rattle.txn.specs.declared.transactions.TxnId.{TxnId}
use Rattle.txn.specs.declared.choices.Arc.{Arc}
use Rattle.txn.specs.Arcs.{start_of, end_of}
use Rattle.session_clocks.specs.declared.graph.Addition.{Addition}
use Rattle.session_clocks.specs.declared.graph.Addition.TheVariants.{Added, Cycle}
use Rattle.session_clocks.specs.Reach.{Reaches, IsOrReaches}

-- whether the arc's end was its start, or reached it before
abbrev pub IsAddition : List ℕ → List ℕ → List Arc → Arc → Addition → Type 0
IsAddition gone received arcs arc Added = ¬ IsOrReaches gone received arcs (end_of arc) (start_of arc)
IsAddition gone received arcs arc Cycle = IsOrReaches gone received arcs (end_of arc) (start_of arc)

-- by the arc the one comes to reach the other
abbrev pub ComesToReach : List ℕ → List ℕ → List Arc → Arc → TxnId → TxnId → Type 0
ComesToReach gone received arcs arc a b = (¬ Reaches gone received arcs a b) × Reaches gone received (arcs ++ arc ∷ []) a b

-- by the arc it comes to reach another one, or another one comes to reach it
abbrev pub HasGrown : List ℕ → List ℕ → List Arc → Arc → TxnId → Type 0
HasGrown gone received arcs arc id = (other : TxnId) × (ComesToReach gone received arcs arc id other ⊎ ComesToReach gone received arcs arc other id)

-- the list has more at its end
pub record IsFrontOf (old new : List TxnId) : Type 0 where
  pub more : List TxnId
  pub is : new ≡ old ++ more

-- both of any two are told of which the one reaches the other by the arc alone, and no others are
pub record AreTold (gone received : List ℕ) (arcs : List Arc) (arc : Arc) (old new : List TxnId) : Type 0 where
  pub all : (a b : TxnId) → Reaches gone received (arcs ++ arc ∷ []) a b → Reaches gone received arcs a b ⊎ (Contains new a × Contains new b)
  pub only : (id : TxnId) → Contains new id → Contains old id ⊎ HasGrown gone received arcs arc id
