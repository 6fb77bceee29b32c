-- Paths and cycles of arcs that are right, and choices that they force.
use Rattle.std.specs.Prelude.{◌≡◌, ◌≢◌, ◌<◌, ⊤, List, [], ◌∷◌, All, AllPairs, Contains}
use Rattle.txn.specs.declared.transactions.TxnId.{TxnId}
use Rattle.txn.specs.declared.transactions.Source.TheVariants.{By}
use Rattle.txn.specs.declared.choices.Arc.{Arc}
use Rattle.txn.specs.declared.choices.Arc.TheVariants.{Session, Read, Base, Taken}
use Rattle.txn.specs.declared.choices.Choice.{Choice}
use Rattle.txn.specs.declared.choices.Side.{Side}
use Rattle.txn.specs.declared.choices.Side.TheVariants.{First, Second}
use Rattle.txn.specs.declared.choices.ForceStep.{ForceStep}
use Rattle.txn.specs.Arcs.{start_of, end_of}
use Rattle.txn.specs.Choices.{first_side, second_side}
use Rattle.order_check.specs.declared.remainder.Parts.{Parts}
use Rattle.order_check.specs.Based.{Remains}
use Rattle.order_check.specs.Known.{Known, ReadsKey, WritesKey, ReadsBase, IsChoice}

-- the arcs of the sides that are taken, each from its first to its second
abbrev pub Sides : Type 0
Sides = List (TxnId × TxnId)

-- an arc is right: of two in one session the first has the lower number; the second reads the key from the first, which
-- writes it; the first reads the key from the base, and the second is another writer of it; or it is among the sides taken
abbrev pub IsArc : Parts → Sides → Arc → Type 0
IsArc parts taken (Session from to) = Remains parts from × Remains parts to × (from.session ≡ to.session) × (from.number < to.number)
IsArc parts taken (Read key from to) = ReadsKey parts to key (By from) × WritesKey parts from key
IsArc parts taken (Base key from to) = ReadsBase parts from key × WritesKey parts to key × (to ≢ from)
IsArc parts taken (Taken from to) = Contains taken (from, to)

-- each arc is right and starts where the one before ends; the last ends at the goal
abbrev pub IsPath : Parts → Sides → TxnId → List Arc → TxnId → Type 0
IsPath parts taken at [] goal = at ≡ goal
IsPath parts taken at (arc ∷ arcs) goal = (start_of arc ≡ at) × IsArc parts taken arc × IsPath parts taken (end_of arc) arcs goal

-- a path that isn't empty, and ends where it starts
abbrev pub IsCycle : Parts → Sides → List Arc → Type 0
IsCycle parts taken [] = ⊥
IsCycle parts taken (arc ∷ arcs) = IsPath parts taken (start_of arc) (arc ∷ arcs) (start_of arc)

-- the arc of the side that a step takes
abbrev pub side_taken : ForceStep → TxnId × TxnId
side_taken step = side_arc step.side
  where
    side_arc : Side → TxnId × TxnId
    side_arc First = first_side step.choice
    side_arc Second = second_side step.choice

-- the arc of the side that it rules out
abbrev pub side_not_taken : ForceStep → TxnId × TxnId
side_not_taken step = other_arc step.side
  where
    other_arc : Side → TxnId × TxnId
    other_arc First = second_side step.choice
    other_arc Second = first_side step.choice

-- a step is forced: with the arc of the side that it doesn't take there is the cycle
abbrev pub IsForced : Parts → Sides → ForceStep → Type 0
IsForced parts taken step = IsChoice parts step.choice × IsCycle parts (side_not_taken step ∷ taken) step.cycle

-- each step is forced once the sides of the steps before it are taken
abbrev pub AreForced : Parts → Sides → List ForceStep → Type 0
AreForced parts taken [] = ⊤
AreForced parts taken (step ∷ steps) = IsForced parts taken step × AreForced parts (side_taken step ∷ taken) steps

-- the sides taken after these steps, the last first
abbrev pub sides_after : Sides → List ForceStep → Sides
sides_after taken [] = taken
sides_after taken (step ∷ steps) = sides_after (side_taken step ∷ taken) steps

-- one or more right arcs lead from the one to the other
abbrev pub Links : Parts → Sides → TxnId → TxnId → Type 0
Links parts taken a b = (arc : Arc) × (arcs : List Arc) × (start_of arc ≡ a) × IsArc parts taken arc × IsPath parts taken (end_of arc) arcs b

-- before each step no right arcs lead along its side
abbrev pub AreNew : Parts → Sides → List ForceStep → Type 0
AreNew parts taken [] = ⊤
AreNew parts taken (step ∷ steps) = (¬ Links parts taken (side_taken step).0 (side_taken step).1) × AreNew parts (side_taken step ∷ taken) steps

-- no two of the steps take one side
abbrev pub TakeEachOnce : List ForceStep → Type 0
TakeEachOnce steps = AllPairs (λ one other. side_taken one ≢ side_taken other) steps

-- Steps that are forced, one after another, where the sides at the start are taken. None takes a side again, and each takes one
-- that is known from those that are assumed. After them nothing more is forced: where the other side of a choice is ruled out,
-- arcs lead along this side.
pub record IsFullLogFrom (parts : Parts) (assumed start : Sides) (steps : List ForceStep) : Type 0 where
  pub forced : AreForced parts start steps
  pub once : TakeEachOnce steps
  pub known : All (λ step. Known parts assumed (side_taken step).0 (side_taken step).1) steps
  pub after : (choice : Choice) → IsChoice parts choice → Links parts (sides_after start steps) choice.writer choice.other → Links parts (sides_after start steps) choice.reader choice.other
  pub before : (choice : Choice) → IsChoice parts choice → Links parts (sides_after start steps) choice.other choice.reader → Links parts (sides_after start steps) choice.other choice.writer

-- the same where no side is taken at the start
abbrev pub IsFullLog : Parts → List ForceStep → Type 0
IsFullLog parts steps = IsFullLogFrom parts [] [] steps
