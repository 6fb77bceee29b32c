-- For private clauses: sides of choices that are forced, one after another, and how far the reads of a graph are settled.
use Rattle.std.specs.Prelude.{◌≡◌, ◌⊎◌, ◌≤◌, ℕ, List, Option, [], ◌∷◌, ◌++◌, Contains, MatchOption, length}
use Rattle.txn.specs.declared.transactions.TxnId.{TxnId}
use Rattle.txn.specs.declared.choices.Arc.{Arc}
use Rattle.txn.specs.declared.choices.Choice.{Choice}
use Rattle.txn.specs.declared.choices.Side.{Side}
use Rattle.txn.specs.declared.choices.Side.TheVariants.{First, Second}
use Rattle.order_check.specs.declared.remainder.Parts.{Parts}
use Rattle.order_check.specs.Known.{IsChoice}
use Rattle.session_clocks.specs.Graphs.{GraphState}
use Rattle.session_clocks.specs.Reach.{Reaches}
use Rattle.clock_choices.specs.declared.reads.Read.{Read}
use Rattle.clock_choices.specs.declared.runs.Run.{Run}
use Rattle.clock_choices.specs.declared.steps.Forced.{Forced}
use Rattle.clock_choices.specs.Runs.{IsThird}
use Rattle.clock_choices.specs.Steps.{premise, premise_of, conclusion, conclusion_of, taken_arc}

-- over these arcs the side is forced, and isn't there yet
pub record IsForcedOver (parts : Parts) (gone received : List ℕ) (arcs : List Arc) (step : Forced) : Type 0 where
  pub choice_of : IsChoice parts step.choice
  pub ready : Reaches gone received arcs (premise step).0 (premise step).1
  pub new : ¬ Reaches gone received arcs (conclusion step).0 (conclusion step).1
  pub place : step.arcs ≡ length arcs

-- from these arcs and steps one comes to those by sides that are forced and not there yet, one after another, each with its step
pub data ForcesOver (parts : Parts) (gone received : List ℕ) (arcs : List Arc) (steps : List Forced) : List Arc → List Forced → Type 0 where
  unforced : ForcesOver parts gone received arcs steps arcs steps
  forced : {between : List Arc} {some : List Forced} (step : Forced) → ForcesOver parts gone received arcs steps between some → IsForcedOver parts gone received between step → ForcesOver parts gone received arcs steps (between ++ taken_arc step ∷ []) (some ++ step ∷ [])

-- the same of a graph, which has more arcs then
abbrev pub Forces : Parts → GraphState → List Forced → GraphState → List Forced → Type 0
Forces parts old steps new all = ForcesOver parts old.gone old.received old.arcs steps new.arcs all

-- it reaches one that it didn't, or is reached by one that didn't reach it
abbrev pub HasGrown : (TxnId → TxnId → Type 0) → (TxnId → TxnId → Type 0) → TxnId → Type 0
HasGrown R S id = (other : TxnId) × (((¬ R id other) × S id other) ⊎ ((¬ R other id) × S other id))

-- what was reached is reached, what was told is told, both of any two are of which the one has come to reach the other, and no others
pub record IsGrowth (R : TxnId → TxnId → Type 0) (told : List TxnId) (S : TxnId → TxnId → Type 0) (then : List TxnId) : Type 0 where
  pub reaches : (a b : TxnId) → R a b → S a b
  pub stay : (id : TxnId) → Contains told id → Contains then id
  pub all : (a b : TxnId) → S a b → R a b ⊎ (Contains then a × Contains then b)
  pub only : (id : TxnId) → Contains then id → Contains told id ⊎ HasGrown R S id

-- the choice of a read with another writer of its key
abbrev pub choice_of : Read → TxnId → Choice
choice_of read other = record { reader = read.reader; key = read.key; writer = read.writer; other = other }

-- the run has another writer of the read's key
abbrev pub IsOther : Read → Run → TxnId → Type 0
IsOther read run other = IsThird run.session run.numbers.items read.reader read.writer other

-- what rules out the other side of the choice with the other writer holds, and the arc of the side
abbrev pub IsReady : (TxnId → TxnId → Type 0) → Side → Read → TxnId → Type 0
IsReady R side read other = R (premise_of (choice_of read other) side).0 (premise_of (choice_of read other) side).1

abbrev pub IsTaken : (TxnId → TxnId → Type 0) → Side → Read → TxnId → Type 0
IsTaken R side read other = R (conclusion_of (choice_of read other) side).0 (conclusion_of (choice_of read other) side).1

-- the one follows by the session's order from the other: for the first side it stands before it, for the second behind it
abbrev pub Follows : Side → TxnId → TxnId → Type 0
Follows First one other = one.number ≤ other.number
Follows Second one other = other.number ≤ one.number

-- the side of the choice with this other writer is forced and isn't taken yet, and with it that of each other one in the run
pub record IsForcedIn (R : TxnId → TxnId → Type 0) (side : Side) (read : Read) (run : Run) (other : TxnId) : Type 0 where
  pub found : IsOther read run other
  pub ready : IsReady R side read other
  pub new : ¬ IsTaken R side read other
  pub others : (one : TxnId) → IsOther read run one → IsReady R side read one → Follows side one other

-- such a one, or none where each side that is forced is taken
abbrev pub Decides : (TxnId → TxnId → Type 0) → Side → Read → Run → Option TxnId → Type 0
Decides R side read run found = MatchOption found ((other : TxnId) → IsOther read run other → IsReady R side read other → IsTaken R side read other) (IsForcedIn R side read run)

-- it is told that a side of a choice of the read may be forced: for the first side by the reader, for the second by the writer
abbrev pub IsToldOf : List TxnId → Side → Read → Type 0
IsToldOf told First read = Contains told read.reader
IsToldOf told Second read = Contains told read.writer

-- the side is taken of each choice with a writer in the run of which it is forced, unless that is told
abbrev pub IsSideSettled : (TxnId → TxnId → Type 0) → List TxnId → Side → Read → Run → Type 0
IsSideSettled R told side read run = (other : TxnId) → IsOther read run other → IsReady R side read other → IsTaken R side read other ⊎ IsToldOf told side read

-- both sides are
pub record IsRunSettled (R : TxnId → TxnId → Type 0) (told : List TxnId) (read : Read) (run : Run) : Type 0 where
  pub before : IsSideSettled R told First read run
  pub behind : IsSideSettled R told Second read run

-- each other writer that the run has makes a choice
abbrev pub AreRunChoices : Parts → Read → Run → Type 0
AreRunChoices parts read run = (other : TxnId) → IsOther read run other → IsChoice parts (choice_of read other)
