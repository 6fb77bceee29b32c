use Rattle.std.proofs.Common.{◌≡◌, ◌∙◌, ◌∷◌, ◌++◌, [], List, ap, subst, All}
use Rattle.txn.specs.declared.transactions.TxnId.{TxnId}
use Rattle.txn.specs.declared.choices.Arc.{Arc}
use Rattle.txn.specs.declared.choices.Arc.TheVariants.{Taken}
use Rattle.session_clocks.specs.Reach.{IsThere, Reaches}
use Rattle.clock_choices.specs.declared.reads.Read.{Read}
use Rattle.clock_choices.specs.BranchState.{arc_of}
use Rattle.clock_choices.specs.Closed.{IsClosed}
use Rattle.clock_choices.specs.Extending.{Extends}
use Rattle.clock_choices.specs.Forcing.{ForcesOver}
use Rattle.clock_choices.specs.Held.{IsHeldFrom}
use Rattle.clock_choices.specs.Index.{IsRunThere, reads_of, runs_of}
use Rattle.clock_choices.specs.Steps.{sides_behind}
use Rattle.clock_choices.proofs.Extending.{extends_both, on_new, on_old}
use Rattle.clock_choices.proofs.Growths.{growth_told}
use Rattle.clock_choices.proofs.Links.{index_there, reads_are}
use Rattle.clock_choices.proofs.MoreSides.{closed_but_told, held_with, new_with}
use Rattle.clock_choices.proofs.Stacked.{arc_same}
use Rattle.clock_choices.proofs.branch.relation_with.Goals as goal

pub saturate-requires : goal.saturate-requires
saturate-requires c =
    let (parts, is, nodes, chosen) = c.requires in
    let graph = c.args.graph.now in
    let index = c.args.index.now in
    let extends : Extends graph c.add_arc.new.self = record { gone = c.add_arc.ensures.gone; received = c.add_arc.ensures.received; last = c.add_arc.ensures.last } in
    rw c.deref.ensures.value record {
      runs = λ key. on_new (λ gone received. All (IsRunThere gone received) (runs_of index.writers key)) extends (index_there parts graph.gone graph.received index is nodes key);
      readers = λ id. on_new (λ gone received. All (λ (read : Read). IsThere gone received read.reader) (reads_of index.reads.items id)) extends (reads_are parts graph.gone graph.received index is nodes id);
    }

pub returns-clause-relation : goal.returns-clause-relation
returns-clause-relation c = λ parts is taken start log held.
    let graph = c.args.graph.now in
    let linked = c.add_arc.new.self in
    let closed_graph = c.saturate.new.graph in
    let extends : Extends graph linked = record { gone = c.add_arc.ensures.gone; received = c.add_arc.ensures.received; last = c.add_arc.ensures.last } in
    let both = extends_both extends c.saturate.ensures.extends in
    let steps = c.saturate.new.steps.items in
    let due = c.add_arc.new.told.items in
    let side : TxnId × TxnId = arc_of c.args.assumed.choice c.args.assumed.side in
    let pair : c.conclusion_of.result ≡ side = c.conclusion_of.ensures ∙ arc_same c.args.assumed.choice c.args.assumed.side in
    let arcs : linked.arcs ≡ graph.arcs ++ Taken side.0 side.1 ∷ [] = c.in_ok-add_arc.ensures.arcs ∙ ap (λ (p : TxnId × TxnId). graph.arcs ++ Taken p.0 p.1 ∷ []) pair in
    let growth = rw c.new-due.ensures.items at (growth_told (Taken c.conclusion_of.result.0 c.conclusion_of.result.1) c.new-due.result.items due extends c.in_ok-add_arc.ensures.arcs c.in_ok-add_arc.ensures.told c.in_ok-add_arc.ensures.front) in
    let but = closed_but_told parts taken start graph.gone graph.received graph.arcs log side held due growth in
    let all = rw (c.new-steps.ensures.items, c.deref.ensures.value) at c.in_ok-saturate.ensures.forces in
    let settled = rw c.deref.ensures.value at c.in_ok-saturate.ensures.closed in
    let forces = subst (λ (some : List Arc). ForcesOver parts graph.gone graph.received some [] closed_graph.arcs steps) arcs
    (on_old (λ gone received. ForcesOver parts gone received linked.arcs [] closed_graph.arcs steps) extends (all parts is.writers is.reads)) in
    let closed = on_old (λ gone received. IsClosed parts (Reaches gone received closed_graph.arcs)) both (settled parts is.writers is.reads but) in (
      on_new (λ gone received. IsHeldFrom parts (side ∷ taken) (side ∷ sides_behind start log) gone received closed_graph.arcs steps) both
          (held_with parts taken start graph.gone graph.received graph.arcs log side held closed_graph.arcs steps forces closed),
      new_with parts taken start graph.gone graph.received graph.arcs log side held closed_graph.arcs steps forces,
    )
