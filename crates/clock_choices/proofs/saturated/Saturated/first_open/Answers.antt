use Rattle.clock_choices.proofs.CaughtUp.{held_known}
use Rattle.clock_choices.proofs.There.{remains_there}
use Rattle.clock_choices.proofs.saturated.Saturated.first_open.Goals as goal

pub open_of-requires : goal.open_of-requires
open_of-requires c =
    let s = c.self.inside in
    let held = c.self.invariant.1 in
    record {
      good = c.self.invariant.0;
      index = c.self.invariant.2;
      nodes = record { sessions = held.width; there = λ id remains. remains_there s.parts s.graph.gone s.graph.received held.over id remains };
      exact = λ a b. held_known s.parts s.graph.gone s.graph.received s.graph.arcs s.steps.items held a b;
    }
