-- For private clauses: arcs that lead to a goal, as they are found from the goal backwards.
use Rattle.std.specs.Prelude.{◌≡◌, ◌⊎◌, ◌+◌, ◌-◌, ◌<◌, ◌≤◌, ℕ, Bool, true, false, List, [], ◌∷◌, ◌++◌, All, Contains, length, take, slice_index, slice_index_or, slice_set, nat_lt, if◌then◌else◌}
use Rattle.txn.specs.declared.transactions.TxnId.{TxnId}
use Rattle.txn.specs.declared.choices.Arc.{Arc}
use Rattle.txn.specs.declared.choices.Arc.TheVariants.{Session}
use Rattle.txn.specs.Arcs.{start_of, end_of}
use Rattle.session_clocks.specs.Reach.{IsThere}

-- both ends of the arc are there
abbrev pub IsBetween : List ℕ → List ℕ → Arc → Type 0
IsBetween gone received arc = IsThere gone received (start_of arc) × IsThere gone received (end_of arc)

-- the one is the other or stands before it in its session
abbrev pub IsAlong : TxnId → TxnId → Type 0
IsAlong id other = (id.session ≡ other.session) × (id.number ≤ other.number)

-- it stands before the goal in its session
abbrev pub IsBefore : TxnId → TxnId → Type 0
IsBefore goal id = (id.session ≡ goal.session) × (id.number < goal.number)

-- one comes along its session to the start of one of the arcs
abbrev pub StartsOne : List Arc → TxnId → Type 0
StartsOne tree id = (arc : Arc) × Contains tree arc × IsAlong id (start_of arc)

-- one comes along its session to the goal, or to the start of one of the arcs
abbrev pub LeadsOn : TxnId → List Arc → TxnId → Type 0
LeadsOn goal tree id = IsBefore goal id ⊎ StartsOne tree id

-- each arc ends at the goal, or where the arcs before it lead on
abbrev pub AreNearer : TxnId → List Arc → Type 0
AreNearer goal tree = (k : ℕ) (d : Arc) → k < length tree → (end_of (slice_index_or tree k d) ≡ goal) ⊎ LeadsOn goal (take k tree) (end_of (slice_index_or tree k d))

-- the number is below that of its session
abbrev pub IsLed : List ℕ → TxnId → Type 0
IsLed tops id = id.number < slice_index tops id.session

-- it is the goal, or its number is below that of its session
abbrev pub IsLedTo : List ℕ → TxnId → TxnId → Type 0
IsLedTo tops goal id = (id ≡ goal) ⊎ IsLed tops id

-- the arcs lead to the goal, from each transaction below these numbers
pub record IsTreeTo (goal : TxnId) (tops : List ℕ) (tree : List Arc) : Type 0 where
  pub nearer : AreNearer goal tree
  pub below : (id : TxnId) → IsLed tops id → LeadsOn goal tree id
  pub goals : goal.number ≤ slice_index tops goal.session

-- no arc leads on from a transaction that isn't below them
abbrev pub IsWhole : TxnId → List ℕ → List Arc → Type 0
IsWhole goal tops arcs = All (λ arc. IsLedTo tops goal (end_of arc) → IsLed tops (start_of arc)) arcs

-- the arc is taken: it leads on from a transaction that isn't below its number yet
pub record IsTaken (goal : TxnId) (arc : Arc) (tops : List ℕ) (tree : List Arc) (new_tops : List ℕ) (new_tree : List Arc) : Type 0 where
  pub on : IsLedTo tops goal (end_of arc)
  pub out : ¬ IsLed tops (start_of arc)
  pub raised : new_tops ≡ slice_set tops (start_of arc).session ((start_of arc).number + 1)
  pub pushed : new_tree ≡ tree ++ arc ∷ []

-- the arc is passed: it doesn't lead on, or its start is below its number already
pub record IsPassed (goal : TxnId) (arc : Arc) (tops : List ℕ) (tree : List Arc) (new_tops : List ℕ) (new_tree : List Arc) : Type 0 where
  pub not : IsLedTo tops goal (end_of arc) → IsLed tops (start_of arc)
  pub tops_stay : new_tops ≡ tops
  pub tree_stays : new_tree ≡ tree

-- taken or passed, as the answer says
abbrev pub IsTakenOr : Bool → TxnId → Arc → List ℕ → List Arc → List ℕ → List Arc → Type 0
IsTakenOr true goal arc tops tree new_tops new_tree = IsTaken goal arc tops tree new_tops new_tree
IsTakenOr false goal arc tops tree new_tops new_tree = IsPassed goal arc tops tree new_tops new_tree

-- how far all the numbers are below how many were received
abbrev pub rooms : List ℕ → List ℕ → ℕ
rooms received [] = 0
rooms [] (top ∷ tops) = 0
rooms (count ∷ received) (top ∷ tops) = (count - top) + rooms received tops

-- none is above
abbrev pub AreWithin : List ℕ → List ℕ → Type 0
AreWithin received tops = (session : ℕ) → slice_index tops session ≤ slice_index received session

-- a tree of some of the arcs
pub record IsTreeOf (received : List ℕ) (goal : TxnId) (arcs : List Arc) (tops : List ℕ) (tree : List Arc) : Type 0 where
  pub sessions : length tops ≡ length received
  pub within : AreWithin received tops
  pub leads : IsTreeTo goal tops tree
  pub among : (arc : Arc) → Contains tree arc → Contains arcs arc

-- a tree after all arcs were looked at: some were taken, or no arc leads on from outside
abbrev pub HasLooked : Bool → List ℕ → TxnId → List Arc → List ℕ → List ℕ → Type 0
HasLooked true received goal arcs tops new_tops = rooms received new_tops < rooms received tops
HasLooked false received goal arcs tops new_tops = (new_tops ≡ tops) × IsWhole goal new_tops arcs

-- the step along a session from the one to the other, none where they are one
abbrev pub along : TxnId → TxnId → List Arc
along from to = if nat_lt from.number to.number then Session from to ∷ [] else []
