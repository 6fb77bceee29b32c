-- Steps from one transaction to another, and the paths that they make.
use Rattle.std.specs.Prelude.{◌≡◌, ◌≢◌, ◌⊎◌, ◌<◌, ℕ, List, [], ◌∷◌, Contains}
use Rattle.txn.specs.declared.transactions.TxnId.{TxnId}
use Rattle.txn.specs.declared.choices.Arc.{Arc}
use Rattle.txn.specs.declared.choices.Arc.TheVariants.{Session, Read, Base, Taken}
use Rattle.txn.specs.Arcs.{start_of, end_of}
use Rattle.session_clocks.specs.Reach.{IsThere}

-- the arc leads from a transaction to a later one of its session
abbrev pub IsOfSession : List ℕ → List ℕ → Arc → Type 0
IsOfSession gone received (Session from to) = IsThere gone received from × IsThere gone received to × (from.session ≡ to.session) × (from.number < to.number)
IsOfSession gone received (Read key from to) = ⊥
IsOfSession gone received (Base key from to) = ⊥
IsOfSession gone received (Taken from to) = ⊥

-- it is one of the arcs, or leads along a session
abbrev pub IsStep : List ℕ → List ℕ → List Arc → Arc → Type 0
IsStep gone received arcs arc = Contains arcs arc ⊎ IsOfSession gone received arc

-- each step begins where the one before ends, the first at the start; the last ends at the goal
abbrev pub Leads : List ℕ → List ℕ → List Arc → TxnId → List Arc → TxnId → Type 0
Leads gone received arcs start [] goal = start ≡ goal
Leads gone received arcs start (arc ∷ path) goal = (start_of arc ≡ start) × IsStep gone received arcs arc × Leads gone received arcs (end_of arc) path goal

-- one or more steps that lead from the start to the goal
pub record IsPathOf (gone received : List ℕ) (arcs : List Arc) (start : TxnId) (path : List Arc) (goal : TxnId) : Type 0 where
  pub some : path ≢ []
  pub leads : Leads gone received arcs start path goal
