use Rattle.std.proofs.Common.{ℕ, ◌++◌, List, [], get_or, map, sym, subst, All, Contains}
use Rattle.txn.specs.declared.transactions.TxnId.{TxnId}
use Rattle.session_clocks.specs.Reach.{IsThere}
use Rattle.clock_choices.specs.declared.reads.Read.{Read}
use Rattle.clock_choices.specs.declared.steps.Forced.{Forced}
use Rattle.clock_choices.specs.Extending.{reached_in}
use Rattle.clock_choices.specs.Forcing.{Forces}
use Rattle.clock_choices.specs.Growth.{IsNotedFor}
use Rattle.clock_choices.specs.Held.{IsHeld}
use Rattle.clock_choices.specs.Index.{IsRunThere, reads_of, runs_of}
use Rattle.clock_choices.specs.Linking.{AreNodesOf, IsTxnLinked}
use Rattle.clock_choices.specs.Pending.{IsClosedBut}
use Rattle.clock_choices.specs.SaturatedState.{AreNewBehind}
use Rattle.clock_choices.specs.Steps.{bare}
use Rattle.clock_choices.proofs.CaughtUp.{closed_but_due, held_more, logged_more, new_all_remain, nodes_of}
use Rattle.clock_choices.proofs.Extending.{on_new}
use Rattle.clock_choices.proofs.Links.{index_there, reads_are}
use Rattle.clock_choices.proofs.catching_up.bring_up.Goals as goal
use Rattle.clock_choices.proofs.catching_up.bring_up.Goals.{After-drop-forced-2}

pub link_txns-requires : goal.link_txns-requires
link_txns-requires c =
    let (parts, few, session, count, goes, first) = c.requires.goes_on in
    let graph = c.args.graph.now in
    record {
      index = c.requires.index;
      nodes = nodes_of parts c.args.more.now graph.gone few graph.received graph.arcs c.args.steps.now.items session count c.args.new.now goes;
      remain = new_all_remain parts c.args.more.now graph.gone few graph.received graph.arcs c.args.steps.now.items session count c.args.new.now goes;
    }

pub note_txns-requires : goal.note_txns-requires
note_txns-requires c =
    let (parts, few, session, count, goes, first) = c.requires.goes_on in
    let graph = c.args.graph.now in
    record {
      index = c.requires.index;
      nodes = on_new (λ gone received. AreNodesOf c.args.more.now gone received) c.link_txns.ensures.extends
          (nodes_of parts c.args.more.now graph.gone few graph.received graph.arcs c.args.steps.now.items session count c.args.new.now goes);
      remain = new_all_remain parts c.args.more.now graph.gone few graph.received graph.arcs c.args.steps.now.items session count c.args.new.now goes;
    }

pub saturate-requires : goal.saturate-requires
saturate-requires c =
    let (parts, few, session, count, goes, first) = c.requires.goes_on in
    let graph = c.args.graph.now in
    let more = c.args.more.now in
    let index = c.args.index.now in
    let nodes = nodes_of parts more graph.gone few graph.received graph.arcs c.args.steps.now.items session count c.args.new.now goes in
    rw c.deref.ensures.value record {
      runs = λ key. on_new (λ gone received. All (IsRunThere gone received) (runs_of index.writers key)) c.link_txns.ensures.extends (index_there more graph.gone graph.received index c.requires.index nodes key);
      readers = λ id. on_new (λ gone received. All (λ (read : Read). IsThere gone received read.reader) (reads_of index.reads.items id)) c.link_txns.ensures.extends (reads_are more graph.gone graph.received index c.requires.index nodes id);
    }

-- all that the relation of more parts is, once it has caught up
caught : (c : After-drop-forced-2) → IsHeld c.args.more.now c.saturate.new.graph.gone c.saturate.new.graph.received c.saturate.new.graph.arcs (c.args.steps.now.items ++ c.saturate.new.steps.items) × AreNewBehind c.args.more.now (map bare c.args.steps.now.items) (map bare (c.args.steps.now.items ++ c.saturate.new.steps.items))
caught c =
    let (parts, few, session, count, goes, first) = c.requires.goes_on in
    let graph = c.args.graph.now in
    let more = c.args.more.now in
    let steps = c.args.steps.now.items in
    let ids = c.args.new.now in
    let linked = c.link_txns.new.graph in
    let extends = c.link_txns.ensures.extends in
    let start = c.note_all.new.self in
    let noted = c.link_txns.new.due in
    let due = c.note_txns.new.due in
    let new = c.saturate.new.steps.items in
    let closed = c.saturate.new.graph in
    let on = c.saturate.ensures.extends in
    let brings = c.in_ok-link_txns.ensures.brings in
    let links : All (IsTxnLinked more (reached_in linked) (get_or few session 0)) ids = subst (λ (n : ℕ). All (IsTxnLinked more (reached_in linked) n) ids) first brings.1 in
    let passes : All (IsNotedFor more (reached_in linked) (Contains due)) ids = c.in_ok-note_txns.ensures.noted in
    let index = c.requires.index in
    let here : (id : TxnId) → Contains ids id → Contains start id = c.in_ok-note_all.ensures.here in
    let stay = c.in_ok-note_txns.ensures.stay in
    let but : IsClosedBut more (reached_in linked) (Contains due) = closed_but_due parts more graph.gone few graph.received graph.arcs steps session count ids goes graph.marks linked extends start noted due here brings.0 stay links passes in
    let settled = rw (c.into_ids.ensures, c.deref.ensures.value) at c.in_ok-saturate.ensures.closed in
    let forced = rw (c.new-forced.ensures.items, c.deref.ensures.value) at c.in_ok-saturate.ensures.forces in
    let forces : Forces more linked [] closed new = forced more index.writers index.reads in (
      held_more parts more graph.gone few graph.received graph.arcs steps session count ids goes graph.marks linked extends start noted due here brings.0 stay links passes closed on new forces c.requires.sessions (settled more index.writers index.reads but),
      logged_more parts more graph.gone few graph.received graph.arcs steps session count ids goes graph.marks linked extends start noted due here brings.0 stay links passes closed on new forces,
    )

pub returns-clause-held : goal.returns-clause-held
returns-clause-held c =
    let graph = c.saturate.new.graph in
    subst (λ (steps : List Forced). IsHeld c.args.more.now graph.gone graph.received graph.arcs steps) (sym c.in_ok-append.ensures.items) (caught c).0

pub returns-clause-logged : goal.returns-clause-logged
returns-clause-logged c = subst (λ (steps : List Forced). AreNewBehind c.args.more.now (map bare c.args.steps.now.items) (map bare steps)) (sym c.in_ok-append.ensures.items) (caught c).1
