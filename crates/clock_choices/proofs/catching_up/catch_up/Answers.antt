use Rattle.std.proofs.Common.{◌≡◌, ◌∙◌, ℕ, ◌<◌, ◌≤◌, List, length, get_or, sym, ap, subst, subst₂, arith, All}
use Rattle.txn.specs.declared.transactions.TxnId.{TxnId}
use Rattle.txn.specs.declared.choices.Arc.{Arc}
use Rattle.clock_choices.specs.CatchingUp.{GoesOn}
use Rattle.clock_choices.specs.Nodes.{HaveMore, IsArcThere}
use Rattle.clock_choices.proofs.Nexts.{arcs_in, first_is, front_low, goes_on, index_next, low_number, session_in, sessions_more}
use Rattle.clock_choices.proofs.catching_up.catch_up.Goals as goal

pub ids_of-requires : goal.ids_of-requires
ids_of-requires c =
    let (parts, next, held, index) = c.requires.next in
    let graph = c.args.graph.now in
    let low = low_number parts c.args.more.now c.args.fragment.now graph.gone graph.received graph.arcs c.args.steps.now.items next held c.requires.good in
    omega (arith, low)

pub add_txns-requires : goal.add_txns-requires
add_txns-requires c = let (parts, next, held, index) = c.requires.next in index.runs

pub add_nodes-requires : goal.add_nodes-requires
add_nodes-requires c =
    let (parts, next, held, index) = c.requires.next in
    let more = c.args.more.now in
    let fragment = c.args.fragment.now in
    let graph = c.args.graph.now in
    let steps = c.args.steps.now.items in
    let low = low_number parts more fragment graph.gone graph.received graph.arcs steps next held c.requires.good in
    let count = c.len-count.ensures in
    record {
      session = session_in parts more fragment graph.gone graph.received graph.arcs steps next held;
      order = front_low parts more fragment graph.gone graph.received graph.arcs steps next held;
      first = sym (first_is parts more fragment graph.gone graph.received graph.arcs steps next held);
      number = omega (arith, low, count);
      there = arcs_in parts more fragment graph.gone graph.received graph.arcs steps next held;
    }

pub go_on-requires-clause-index : goal.go_on-requires-clause-index
go_on-requires-clause-index c =
    let (parts, next, held, index) = c.requires.next in
    let graph = c.args.graph.now in
    let fragment = c.args.fragment.now in
    index_next parts c.args.more.now fragment graph.gone graph.received graph.arcs c.args.steps.now.items next held c.add_nodes.new.graph.received c.in_ok-new.new.items c.args.index c.add_txns.new.index
    (subst (λ (n : ℕ). HaveMore graph.received c.add_nodes.new.graph.received fragment.session n) c.len-count.ensures c.in_ok-add_nodes.ensures.ok) c.in_ok-new.ensures index (rw c.deref.ensures.value at c.in_ok-add_txns.ensures.adds) c.in_ok-add_txns.ensures.runs

pub go_on-requires-clause-sessions : goal.go_on-requires-clause-sessions
go_on-requires-clause-sessions c =
    let (parts, next, held, index) = c.requires.next in
    let graph = c.args.graph.now in
    ap (λ (xs : List ℕ). length xs) c.add_nodes.ensures.gone ∙ sessions_more parts c.args.more.now c.args.fragment.now graph.gone graph.received graph.arcs c.args.steps.now.items next held

pub go_on-requires-clause-goes_on : goal.go_on-requires-clause-goes_on
go_on-requires-clause-goes_on c =
    let (parts, next, held, index) = c.requires.next in
    let graph = c.args.graph.now in
    let more = c.args.more.now in
    let fragment = c.args.fragment.now in
    let steps = c.args.steps.now.items in
    let received = c.add_nodes.new.graph.received in
    let on = goes_on parts more fragment graph.gone graph.received graph.arcs steps next held received c.in_ok-new.new.items (subst (λ (n : ℕ). HaveMore graph.received received fragment.session n) c.len-count.ensures c.in_ok-add_nodes.ensures.ok) c.in_ok-new.ensures in (
      parts,
      graph.received,
      fragment.session,
      length fragment.txns,
      subst (λ (ids : List TxnId). GoesOn parts more c.add_nodes.new.graph.gone graph.received received c.add_nodes.new.graph.arcs steps fragment.session (length fragment.txns) ids) (sym c.deref-2.ensures.value)
          (subst₂ (λ (gone : List ℕ) (arcs : List Arc). GoesOn parts more gone graph.received received arcs steps fragment.session (length fragment.txns) c.in_ok-new.new.items) (sym c.add_nodes.ensures.gone) (sym c.add_nodes.ensures.arcs) on),
      first_is parts more fragment graph.gone graph.received graph.arcs steps next held,
    )

pub remove_nodes-requires : goal.remove_nodes-requires
remove_nodes-requires c =
    let (parts, next, held, index) = c.requires.next in
    let graph = c.args.graph.now in
    let more = c.args.more.now in
    let fragment = c.args.fragment.now in
    let steps = c.args.steps.now.items in
    let gone : c.go_on.new.graph.gone ≡ graph.gone = c.go_on.ensures.gone ∙ c.add_nodes.ensures.gone in
    let received = c.go_on.ensures.received in
    let arcs : c.go_on.new.graph.arcs ≡ graph.arcs = c.in-Err.ensures.err.1 ∙ c.add_nodes.ensures.arcs in
    let nodes : HaveMore graph.received c.go_on.new.graph.received fragment.session c.len-count.result = subst (λ (xs : List ℕ). HaveMore graph.received xs fragment.session c.len-count.result) (sym received) c.in_ok-add_nodes.ensures.ok in
    let one = nodes.one in
    let first = first_is parts more fragment graph.gone graph.received graph.arcs steps next held in
    let low = low_number parts more fragment graph.gone graph.received graph.arcs steps next held c.requires.good in
    let count = c.len-count.ensures in
    record {
      session = subst (λ (xs : List ℕ). fragment.session < length xs) (sym gone) (session_in parts more fragment graph.gone graph.received graph.arcs steps next held);
      order = subst (λ (xs : List ℕ). get_or xs fragment.session 0 ≤ fragment.first) (sym gone) (front_low parts more fragment graph.gone graph.received graph.arcs steps next held);
      last = omega (arith, one, first);
      number = omega (arith, low, count);
      untouched = (graph.received, nodes, subst₂ (λ (gone : List ℕ) (arcs : List Arc). All (IsArcThere gone graph.received) arcs) (sym gone) (sym arcs) (arcs_in parts more fragment graph.gone graph.received graph.arcs steps next held));
    }

pub returns-clause-err : goal.returns-clause-err
returns-clause-err c =
    let graph = c.args.graph.now in
    let fragment = c.args.fragment.now in
    let nodes : HaveMore graph.received c.go_on.new.graph.received fragment.session c.len-count.result = subst (λ (xs : List ℕ). HaveMore graph.received xs fragment.session c.len-count.result) (sym c.go_on.ensures.received) c.in_ok-add_nodes.ensures.ok in (
      c.in-Err.ensures.err.0,
      c.remove_nodes.ensures.gone ∙ c.go_on.ensures.gone ∙ c.add_nodes.ensures.gone,
      c.remove_nodes.ensures.received graph.received nodes,
      c.remove_nodes.ensures.arcs ∙ c.in-Err.ensures.err.1 ∙ c.add_nodes.ensures.arcs,
    )

pub returns-in-Ok-clause-index : goal.returns-in-Ok-clause-index
returns-in-Ok-clause-index c =
    let (parts, next, held, index) = c.requires.next in
    let graph = c.args.graph.now in
    let fragment = c.args.fragment.now in
    index_next parts c.args.more.now fragment graph.gone graph.received graph.arcs c.args.steps.now.items next held c.add_nodes.new.graph.received c.in_ok-new.new.items c.args.index c.add_txns.new.index
    (subst (λ (n : ℕ). HaveMore graph.received c.add_nodes.new.graph.received fragment.session n) c.len-count.ensures c.in_ok-add_nodes.ensures.ok) c.in_ok-new.ensures index (rw c.deref.ensures.value at c.in_ok-add_txns.ensures.adds) c.in_ok-add_txns.ensures.runs
