use Rattle.std.proofs.Common.{[]}
use Rattle.std.proofs.lemmas.Result.{on_ok_weaker}
use Rattle.clock_choices.specs.Extending.{Extends}
use Rattle.clock_choices.proofs.Growths.{growth_told}
use Rattle.clock_choices.proofs.Settled.{growth_noted}
use Rattle.clock_choices.proofs.linking.link.Goals as goal

pub returns-clause-arcs : goal.returns-clause-arcs
returns-clause-arcs c = on_ok_weaker c.note_all.result (λ is. c.in_ok-add_arc.ensures.arcs) c.note_all.ensures

pub returns-clause-growth : goal.returns-clause-growth
returns-clause-growth c =
    let told = rw c.new-told.ensures.items at c.in_ok-add_arc.ensures.told in
    let front = rw c.new-told.ensures.items at c.in_ok-add_arc.ensures.front in
    let extends : Extends c.args.graph.now c.add_arc.new.self = record { gone = c.add_arc.ensures.gone; received = c.add_arc.ensures.received; last = c.add_arc.ensures.last } in
    let growth = growth_told c.args.arc [] c.add_arc.new.told.items extends c.in_ok-add_arc.ensures.arcs told front in
    on_ok_weaker c.note_all.result (λ is. growth_noted growth is) (rw c.deref.ensures.value at c.note_all.ensures)
