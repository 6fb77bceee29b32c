-- The known relation is the least that keeps its rules.
use Rattle.std.proofs.Common.{◌≡◌, ◌≢◌, ℕ, ◌<◌, List, Contains}
use Rattle.txn.specs.declared.transactions.TxnId.{TxnId}
use Rattle.txn.specs.declared.transactions.Source.TheVariants.{By}
use Rattle.txn.specs.declared.choices.Choice.{Choice}
use Rattle.order_check.specs.declared.remainder.Parts.{Parts}
use Rattle.order_check.specs.Based.{Remains}
use Rattle.order_check.specs.Known.{ReadsKey, WritesKey, ReadsBase, IsChoice, Known, by_session, by_read, by_base, by_taken, through, forces_after, forces_before}

-- a relation that keeps each rule of the known relation
pub record IsClosed (parts : Parts) (taken : List (TxnId × TxnId)) (before : TxnId → TxnId → Type 0) : Type 0 where
  pub session : (a b : TxnId) → Remains parts a → Remains parts b → a.session ≡ b.session → a.number < b.number → before a b
  pub read : (reader writer : TxnId) (key : ℕ) → ReadsKey parts reader key (By writer) → WritesKey parts writer key → before writer reader
  pub base : (reader other : TxnId) (key : ℕ) → ReadsBase parts reader key → WritesKey parts other key → other ≢ reader → before reader other
  pub sides : (a b : TxnId) → Contains taken (a, b) → before a b
  pub transitive : (a b c : TxnId) → before a b → before b c → before a c
  pub after : (choice : Choice) → IsChoice parts choice → before choice.writer choice.other → before choice.reader choice.other
  pub front : (choice : Choice) → IsChoice parts choice → before choice.other choice.reader → before choice.other choice.writer

-- what is known is in every relation that keeps the rules
pub known_least : {parts : Parts} {taken : List (TxnId × TxnId)} (before : TxnId → TxnId → Type 0) → IsClosed parts taken before → {a b : TxnId} → Known parts taken a b → before a b
known_least before closed (by_session {a} {b} here there same below) = closed.session a b here there same below
known_least before closed (by_read {reader} {writer} key reads written) = closed.read reader writer key reads written
known_least before closed (by_base {reader} {other} key reads written apart) = closed.base reader other key reads written apart
known_least before closed (by_taken {a} {b} taken) = closed.sides a b taken
known_least before closed (through {a} {b} {c} first second) = closed.transitive a b c (known_least before closed first) (known_least before closed second)
known_least before closed (forces_after choice is known) = closed.after choice is (known_least before closed known)
known_least before closed (forces_before choice is known) = closed.front choice is (known_least before closed known)
