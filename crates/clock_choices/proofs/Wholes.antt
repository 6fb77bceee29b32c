-- The relation of whole parts: all is new, and all is due.
use Rattle.std.proofs.Common.{◌≡◌, ℕ, List, [], length, get_or, map, refl, sym, subst, inl, inr, arith, Contains, All}
use Rattle.std.proofs.lemmas.List.Elements.{All-append, All-contains, All-weaker, Contains-get_or}
use Rattle.txn.specs.declared.transactions.TxnId.{TxnId}
use Rattle.txn.specs.declared.transactions.Source.TheVariants.{By}
use Rattle.txn.specs.declared.choices.Arc.{Arc}
use Rattle.txn.specs.Arcs.{start_of, end_of}
use Rattle.order_check.specs.declared.remainder.Parts.{Parts}
use Rattle.order_check.specs.Based.{Remains}
use Rattle.order_check.specs.Cycles.{AreNew, IsArc}
use Rattle.order_check.specs.Known.{Known}
use Rattle.session_clocks.specs.Graphs.{GraphState}
use Rattle.session_clocks.specs.Reach.{Reaches}
use Rattle.clock_choices.specs.declared.steps.Forced.{Forced}
use Rattle.clock_choices.specs.Closed.{AreKnown, IsClosed, IsPlain}
use Rattle.clock_choices.specs.Extending.{Extends, reached_in}
use Rattle.clock_choices.specs.Forcing.{Forces}
use Rattle.clock_choices.specs.Held.{IsHeld}
use Rattle.clock_choices.specs.Linking.{AreNodesOf, Brings, IsTxnLinked}
use Rattle.clock_choices.specs.Logging.{HasRight, IsLogged}
use Rattle.clock_choices.specs.Over.{IsOver}
use Rattle.clock_choices.specs.Pending.{IsClosedBut}
use Rattle.clock_choices.specs.Steps.{bare, sides_of}
use Rattle.clock_choices.specs.Whole.{AreAll, IsGraphOf}
use Rattle.clock_choices.proofs.CaughtUp.{arc_known}
use Rattle.clock_choices.proofs.Extending.{on_new, on_old}
use Rattle.clock_choices.proofs.Logged.{forces_known, forces_new}
use Rattle.clock_choices.proofs.Remaining.{reader_remains}
use Rattle.clock_choices.proofs.StepsOn.{logged_forces}
use Rattle.clock_choices.proofs.There.{remains_there}

module _ (parts : Parts) (old : GraphState) (is : IsGraphOf parts old.gone old.received old.arcs) (ids : List TxnId) (all : AreAll parts ids) where
  pub nodes_all : AreNodesOf parts old.gone old.received
  nodes_all = record { sessions = is.width; there = λ id remains. remains_there parts old.gone old.received is.over id remains }

  pub all_remain : All (Remains parts) ids
  all_remain k d within = (all (get_or ids k d)).0 (Contains-get_or ids k d within)

  module _ (first : ℕ) (linked : GraphState) (extends : Extends old linked) (start due : List TxnId) (here : (id : TxnId) → Contains ids id → Contains start id) (brings : Brings parts old start linked due) (links : All (IsTxnLinked parts (reached_in linked) first) ids) where
    over : IsOver parts linked.gone linked.received
    over = on_new (IsOver parts) extends is.over

    link_of : (id : TxnId) → Remains parts id → IsTxnLinked parts (reached_in linked) first id
    link_of id remains = All-contains (IsTxnLinked parts (reached_in linked) first) ids id links ((all id).1 remains)

    -- all choices are due
    pub all_due : IsClosedBut parts (reached_in linked) (Contains due)
    all_due choice of =
        let there : Contains due choice.reader = (let growth = brings.growth in growth.stay choice.reader (here choice.reader ((all choice.reader).1 (reader_remains parts choice.reader choice.key (By choice.writer) of.reads)))) in
        record { before = λ reached. inr (inl there); behind = λ reached. inr (inl there) }

    plain_all : IsPlain parts [] (reached_in linked)
    plain_all = record {
      reads = λ reader writer key read written. let of = link_of reader (reader_remains parts reader key (By writer) read) in of.reads reader writer key (inl refl) read written;
      base = λ reader other key read written apart. let of = link_of reader (reader_remains parts reader key read.0 read.1) in of.base other key read written apart;
      sides = λ a b there. absurd (omega (arith, there.1));
    }

    right_all : All (IsArc parts []) linked.arcs
    right_all = subst (λ (some : List Arc). All (IsArc parts []) some) (sym brings.is) (All-append (IsArc parts []) old.arcs brings.added is.right brings.right)

    known_all : AreKnown parts [] linked.arcs
    known_all = All-weaker (IsArc parts []) (λ (arc : Arc). Known parts [] (start_of arc) (end_of arc)) (λ arc right. arc_known parts arc right) linked.arcs right_all

    logged_none : IsLogged parts linked.gone linked.received linked.arcs []
    logged_none = record {
      right = All-weaker (IsArc parts []) (λ (arc : Arc). HasRight parts [] (start_of arc) (end_of arc)) (λ arc right. (arc, refl, refl, right)) linked.arcs right_all;
      each = λ i d within. absurd (omega arith);
    }

    module _ (closed : GraphState) (on : Extends linked closed) (steps : List Forced) (forces : Forces parts linked [] closed steps) where
      are_new : AreNew parts [] (map bare steps) × IsPlain parts (sides_of steps) (Reaches linked.gone linked.received closed.arcs)
      are_new = forces_new parts linked.gone linked.received over [] linked.arcs closed.arcs steps plain_all forces

      pub held_all : IsClosed parts (reached_in closed) → IsHeld parts closed.gone closed.received closed.arcs steps
      held_all settled = on_new (λ gone received. IsHeld parts gone received closed.arcs steps) on record {
        sessions = on_new (λ gone received. length gone ≡ length parts.remain) extends is.sessions;
        width = on_new (λ gone received. length received ≡ length gone) extends is.width;
        over = over;
        known = forces_known parts linked.gone linked.received over linked.arcs [] closed.arcs steps known_all forces;
        plain = are_new.1;
        closed = on_old (λ gone received. IsClosed parts (Reaches gone received closed.arcs)) on settled;
        logged = logged_forces parts linked.gone linked.received linked.arcs closed.arcs [] steps over logged_none plain_all forces;
      }

      pub new_all : AreNew parts [] (map bare steps)
      new_all = are_new.0
