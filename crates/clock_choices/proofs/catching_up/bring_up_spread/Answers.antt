use Rattle.clock_choices.proofs.Catching.{goes_on_spread}
use Rattle.clock_choices.proofs.catching_up.bring_up_spread.Goals as goal

pub bring_up-requires : goal.bring_up-requires
bring_up-requires c =
    let (parts, few, session, count, goes, first) = c.requires.goes_on in
    let graph = c.args.graph.now in
    rw c.deref.ensures.value record {
      index = c.requires.index;
      sessions = c.requires.sessions;
      goes_on = (parts, few, session, count, goes_on_spread parts c.args.more.now graph.gone few graph.received graph.arcs c.args.steps.now.items session count c.args.new.now c.in_ok-spread.spread.items c.in_ok-spread.ensures goes, first);
    }
