-- What a closed relation reaches is what is known.
use Rattle.std.proofs.Common.{ℕ, List}
use Rattle.std.proofs.lemmas.List.Elements.{All-contains}
use Rattle.txn.specs.declared.transactions.TxnId.{TxnId}
use Rattle.txn.specs.declared.choices.Arc.{Arc}
use Rattle.txn.specs.Arcs.{start_of, end_of}
use Rattle.order_check.specs.declared.remainder.Parts.{Parts}
use Rattle.order_check.specs.Cycles.{Sides}
use Rattle.order_check.specs.Known.{Known, by_session, by_read, by_base, by_taken, through, forces_after, forces_before}
use Rattle.session_clocks.specs.Reach as reach
use Rattle.clock_choices.specs.Closed.{IsClosed, IsPlain, AreKnown, ClosedReachesKnown}
use Rattle.clock_choices.specs.Over.{IsOver}
use Rattle.clock_choices.proofs.There.{there_remains, remains_there}

module _ (parts : Parts) (taken : Sides) (gone received : List ℕ) (arcs : List Arc) (over : IsOver parts gone received) where
  pub reached_known : AreKnown parts taken arcs → {a b : TxnId} → reach.Reaches gone received arcs a b → Known parts taken a b
  reached_known known (reach.by_session a b first second same below) = by_session (there_remains parts gone received over a first) (there_remains parts gone received over b second) same below
  reached_known known (reach.by_arc arc there) = All-contains (λ one. Known parts taken (start_of one) (end_of one)) arcs arc known there
  reached_known known (reach.through a b c first second) = through (reached_known known first) (reached_known known second)

  pub known_reached : IsPlain parts taken (reach.Reaches gone received arcs) → IsClosed parts (reach.Reaches gone received arcs) → {a b : TxnId} → Known parts taken a b → reach.Reaches gone received arcs a b
  known_reached plain closed (by_session {a} {b} first second same below) = reach.by_session a b (remains_there parts gone received over a first) (remains_there parts gone received over b second) same below
  known_reached plain closed (by_read {reader} {writer} key reads writes) = plain.reads reader writer key reads writes
  known_reached plain closed (by_base {reader} {other} key reads writes apart) = plain.base reader other key reads writes apart
  known_reached plain closed (by_taken {a} {b} there) = plain.sides a b there
  known_reached plain closed (through {a} {b} {c} first second) = reach.through a b c (known_reached plain closed first) (known_reached plain closed second)
  known_reached plain closed (forces_after choice is known) = (closed choice is).behind (known_reached plain closed known)
  known_reached plain closed (forces_before choice is known) = (closed choice is).before (known_reached plain closed known)

pub closed_reaches_known_is : ClosedReachesKnown
closed_reaches_known_is parts taken gone received arcs over known plain closed a b = (λ is. reached_known parts taken gone received arcs over known is, λ is. known_reached parts taken gone received arcs over plain closed is)
