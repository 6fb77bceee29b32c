use Rattle.std.proofs.Common.{◌≡◌, ◌++◌, ◌∷◌, [], List, length, ap, sym, subst₂}
use Rattle.txn.specs.declared.choices.Arc.{Arc}
use Rattle.txn.specs.declared.choices.Arc.TheVariants.{Taken}
use Rattle.session_clocks.specs.Graphs.{HasNode}
use Rattle.clock_choices.specs.declared.steps.Forced.{Forced}
use Rattle.clock_choices.specs.Extending.{reached_in}
use Rattle.clock_choices.specs.Extending.{Extends}
use Rattle.clock_choices.specs.Forcing.{ForcesOver, IsGrowth, IsTaken, choice_of, forced, unforced}
use Rattle.clock_choices.specs.Index.{IsRunThere}
use Rattle.clock_choices.specs.Steps.{taken_arc}
use Rattle.clock_choices.proofs.Extending.{on_new}
use Rattle.clock_choices.proofs.Growths.{by_last, growth_told, settled_by, side_there}
use Rattle.clock_choices.proofs.settling.take.Goals as goal
use Rattle.clock_choices.proofs.settling.take.Goals.{In_ok-add_arc}

pub add_arc-requires : goal.add_arc-requires
add_arc-requires c =
    let both = side_there (HasNode c.args.graph.now) c.args.side c.args.read c.args.other c.requires.reader c.requires.writer c.requires.other in
    rw (c.conclusion.ensures, c.choice_of.ensures) record { start = both.0; end = both.1 }

-- the graph has the side's arc, of which that was told
extends : (c : In_ok-add_arc) → Extends c.args.graph.now c.add_arc.new.self
extends c = record { gone = c.add_arc.ensures.gone; received = c.add_arc.ensures.received; last = c.add_arc.ensures.last }

growth : (c : In_ok-add_arc) → IsGrowth (reached_in c.args.graph.now) c.args.told.now.items (reached_in c.add_arc.new.self) c.add_arc.new.told.items
growth c = growth_told (Taken c.conclusion.result.0 c.conclusion.result.1) c.args.told.now.items c.add_arc.new.told.items (extends c) c.in_ok-add_arc.ensures.arcs c.in_ok-add_arc.ensures.told c.in_ok-add_arc.ensures.front

pub returns-clause-growth : goal.returns-clause-growth
returns-clause-growth c = growth c

pub returns-clause-forces : goal.returns-clause-forces
returns-clause-forces c parts run is choices =
    let graph = c.args.graph.now in
    let step : Forced = record { choice = choice_of c.args.read c.args.other; side = c.args.side; arcs = length c.arcs.result.now } in
    let arcs : c.add_arc.new.self.arcs ≡ graph.arcs ++ taken_arc step ∷ [] = rw (c.conclusion.ensures, c.choice_of.ensures) at c.in_ok-add_arc.ensures.arcs in
    let steps : c.push.new.self.items ≡ c.args.steps.now.items ++ step ∷ [] = rw c.choice_of.ensures at c.in_ok-push.ensures.items in
    subst₂ (λ (arcs : List Arc) (steps : List Forced). ForcesOver parts graph.gone graph.received graph.arcs c.args.steps.now.items arcs steps) (sym arcs) (sym steps)
    (forced step unforced (record { choice_of = choices c.args.other is.found; ready = is.ready; new = is.new; place = ap length c.arcs.ensures }))

pub returns-clause-settled : goal.returns-clause-settled
returns-clause-settled c run there is =
    let new = c.add_arc.new.self in
    let other = c.args.other in
    let taken : IsTaken (reached_in new) c.args.side c.args.read other =
    rw (c.conclusion.ensures, c.choice_of.ensures) at (by_last new.gone new.received c.args.graph.now.arcs new.arcs (Taken c.conclusion.result.0 c.conclusion.result.1) c.in_ok-add_arc.ensures.arcs) in
    settled_by new (growth c) c.args.read run (on_new (λ gone received. IsRunThere gone received run) (extends c) there) c.args.side other is taken
