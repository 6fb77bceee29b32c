use Rattle.std.proofs.Common.{◌≡◌, true, [], List, get_or, sym, subst, All}
use Rattle.std.specs.Prelude.{◌↔◌, Contains}
use Rattle.txn.specs.declared.transactions.TxnId.{TxnId}
use Rattle.txn.specs.Transactions.{id_below}
use Rattle.order_check.specs.Known.{Known}
use Rattle.session_clocks.specs.Reach.{Reaches}
use Rattle.clock_choices.specs.declared.runs.Run.{Run}
use Rattle.clock_choices.specs.Index.{IsRunThere}
use Rattle.clock_choices.specs.OrderedAmong.{IsOrderedAmong}
use Rattle.clock_choices.specs.Picks.{IsLinkedWithAll, Picks}
use Rattle.clock_choices.proofs.LinkedAmong.{linked_ordered, runs_there}
use Rattle.clock_choices.proofs.Picking.{picks_members, picks_pairs}
use Rattle.clock_choices.proofs.There.{remains_there}
use Rattle.clock_choices.proofs.saturated.Saturated.ordered_with_all.Goals as goal

pub linked_among-requires-clause-runs : goal.linked_among-requires-clause-runs
linked_among-requires-clause-runs c =
    let graph = c.graph.result.now in
    subst (λ (runs : List Run). All (IsRunThere graph.gone graph.received) runs) (sym c.deref.ensures.value)
    (runs_there c.args.self.now.parts graph.gone graph.received c.args.others.now c.in_ok-runs.runs.items c.graph.ensures.over c.graph.ensures.sessions c.in_ok-runs.ensures c.requires.others)

pub linked_among-requires-clause-there : goal.linked_among-requires-clause-there
linked_among-requires-clause-there c = λ k d within.
    let graph = c.graph.result.now in
    remains_there c.args.self.now.parts graph.gone graph.received c.graph.ensures.over (get_or c.args.ids.now k d) (c.requires.ids k d within)

pub returns-clause-members : goal.returns-clause-members
returns-clause-members c = λ id.
    let graph = c.graph.result.now in
    let R = Reaches graph.gone graph.received graph.arcs in
    let runs = c.in_ok-runs.runs.items in
    let picked : List TxnId = c.in_ok-picked.picked.items in
    let picks = subst (λ (some : List Run). Picks (IsLinkedWithAll R some) c.args.ids.now picked) c.deref.ensures.value c.in_ok-picked.ensures in
    let member : Contains picked id ↔ (Contains c.args.ids.now id × IsLinkedWithAll R runs id) = picks_members (IsLinkedWithAll R runs) c.args.ids.now picked picks id in
    let ordered : IsLinkedWithAll R runs id ↔ IsOrderedAmong c.args.self.now.parts c.args.others.now id = linked_ordered c.args.self.now.parts R c.args.others.now runs id c.graph.ensures.exact c.in_ok-runs.ensures in (
      λ there. let both = member.0 there in (both.0, ordered.0 both.1),
      λ both. member.1 (both.0, ordered.1 both.1),
    )

pub returns-clause-rise : goal.returns-clause-rise
returns-clause-rise c =
    let graph = c.graph.result.now in
    picks_pairs (IsLinkedWithAll (Reaches graph.gone graph.received graph.arcs) c.deref.result.now) (λ a b. id_below a b ≡ true) c.args.ids.now c.in_ok-picked.picked.items c.in_ok-picked.ensures

pub returns-clause-order : goal.returns-clause-order
returns-clause-order c =
    let graph = c.graph.result.now in
    picks_pairs (IsLinkedWithAll (Reaches graph.gone graph.received graph.arcs) c.deref.result.now) (Known c.args.self.now.parts []) c.args.ids.now c.in_ok-picked.picked.items c.in_ok-picked.ensures
