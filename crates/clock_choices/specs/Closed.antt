-- For private clauses: relations in which nothing is left to force, and that what they reach is what is known.
use Rattle.std.specs.Prelude.{◌≢◌, ◌↔◌, ℕ, List, All, Contains}
use Rattle.txn.specs.declared.transactions.TxnId.{TxnId}
use Rattle.txn.specs.declared.transactions.Source.TheVariants.{By}
use Rattle.txn.specs.declared.choices.Arc.{Arc}
use Rattle.txn.specs.declared.choices.Choice.{Choice}
use Rattle.txn.specs.Arcs.{start_of, end_of}
use Rattle.order_check.specs.declared.remainder.Parts.{Parts}
use Rattle.order_check.specs.Cycles.{Sides}
use Rattle.order_check.specs.Known.{Known, IsChoice, ReadsKey, ReadsBase, WritesKey}
use Rattle.session_clocks.specs.Reach.{Reaches}
use Rattle.clock_choices.specs.Over.{IsOver}

-- the other writer stands before the writer where it stands before the reader, and behind the reader where it stands behind the writer
pub record IsSettled (R : TxnId → TxnId → Type 0) (choice : Choice) : Type 0 where
  pub before : R choice.other choice.reader → R choice.other choice.writer
  pub behind : R choice.writer choice.other → R choice.reader choice.other

-- each choice is settled
abbrev pub IsClosed : Parts → (TxnId → TxnId → Type 0) → Type 0
IsClosed parts R = (choice : Choice) → IsChoice parts choice → IsSettled R choice

-- what is there from the start: a writer stands before who reads from it, who reads from the base before the other writers of the key, and
-- the sides that are taken
pub record IsPlain (parts : Parts) (taken : Sides) (R : TxnId → TxnId → Type 0) : Type 0 where
  pub reads : (reader writer : TxnId) (key : ℕ) → ReadsKey parts reader key (By writer) → WritesKey parts writer key → R writer reader
  pub base : (reader other : TxnId) (key : ℕ) → ReadsBase parts reader key → WritesKey parts other key → other ≢ reader → R reader other
  pub sides : (a b : TxnId) → Contains taken (a, b) → R a b

-- each arc is known
abbrev pub AreKnown : Parts → Sides → List Arc → Type 0
AreKnown parts taken arcs = All (λ arc. Known parts taken (start_of arc) (end_of arc)) arcs

-- Where the arcs are known, lead to all that is there from the start, and leave nothing to force, what they reach is what is known.
abbrev pub ClosedReachesKnown : Type 0
ClosedReachesKnown = (parts : Parts) (taken : Sides) (gone received : List ℕ) (arcs : List Arc) → IsOver parts gone received → AreKnown parts taken arcs
    → IsPlain parts taken (Reaches gone received arcs) → IsClosed parts (Reaches gone received arcs)
    → (a b : TxnId) → Reaches gone received arcs a b ↔ Known parts taken a b
