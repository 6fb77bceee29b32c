-- Laws of orders where sides of choices are taken. None asks that the parts are good: what may still come has no limit.
use Rattle.std.specs.Prelude.{◌⊎◌, List}
use Rattle.list_lemmas.specs.Precedes.{Precedes}
use Rattle.txn.specs.declared.transactions.TxnId.{TxnId}
use Rattle.txn.specs.declared.choices.Arc.{Arc}
use Rattle.txn.specs.declared.choices.Choice.{Choice}
use Rattle.order_check.specs.declared.remainder.Parts.{Parts}
use Rattle.order_check.specs.BadReads.{HasBadRead}
use Rattle.order_check.specs.Based.{HasGoneBase}
use Rattle.order_check.specs.Cycles.{Sides, IsCycle}
use Rattle.order_check.specs.Explains.{Explains, KeepsSessions}
use Rattle.order_check.specs.Known.{IsChoice, IsOpen}
use Rattle.order_check.specs.TakenSides.{KeepsSides, KeepsAllKnown}

-- An order that explains the parts, and keeps the sides taken, keeps what is known with them.
abbrev pub KeepsTaken : Type 0
KeepsTaken = (parts : Parts) (taken : Sides) (order : List TxnId) → HasGoneBase parts → Explains parts order → KeepsSides order taken → KeepsAllKnown parts taken order

-- An order that explains the parts keeps one side of each choice.
abbrev pub TakesSides : Type 0
TakesSides = (parts : Parts) (order : List TxnId) (choice : Choice) → Explains parts order → IsChoice parts choice → Precedes order choice.other choice.writer ⊎ Precedes order choice.reader choice.other

-- Where right arcs lead round in a cycle, no order that keeps the sides taken explains the parts.
abbrev pub CycleOfArcsLeavesNone : Type 0
CycleOfArcsLeavesNone = (parts : Parts) (taken : Sides) (order : List TxnId) (arcs : List Arc) → HasGoneBase parts → IsCycle parts taken arcs → KeepsSides order taken → ¬ Explains parts order

-- Where a read is bad, no order explains the parts.
abbrev pub BadReadLeavesNone : Type 0
BadReadLeavesNone = (parts : Parts) (order : List TxnId) → HasBadRead parts → ¬ Explains parts order

-- Where sides are taken, no choice is open and no read is bad, every order of what remains that keeps what is known explains.
abbrev pub KeepingExplains : Type 0
KeepingExplains = (parts : Parts) (taken : Sides) (order : List TxnId) → KeepsSessions parts order → KeepsAllKnown parts taken order → ¬ HasBadRead parts → ((choice : Choice) → ¬ IsOpen parts taken choice) → Explains parts order
