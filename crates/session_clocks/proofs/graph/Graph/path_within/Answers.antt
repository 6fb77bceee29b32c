use Rattle.std.proofs.Common.{IfOk, MatchOption, take, sym, subst}
use Rattle.std.proofs.lemmas.List.Elements.{All-take}
use Rattle.txn.specs.declared.choices.Arc.{Arc}
use Rattle.txn.specs.Arcs.{start_of, end_of}
use Rattle.session_clocks.specs.Graphs.{GraphState, HasNode}
use Rattle.session_clocks.specs.Paths.{IsPathOf}
use Rattle.session_clocks.specs.Reach.{IsThere, Reaches}
use Rattle.session_clocks.proofs.graph.Graph.path_within.Goals as goal

pub find_path-requires : goal.find_path-requires
find_path-requires c =
    let graph = c.self.inside in
    let kept = c.self.invariant.0.kept in
    let from = subst (λ (s : GraphState). HasNode s c.args.from) (sym c.self.view_is) c.requires.from in
    let to = subst (λ (s : GraphState). HasNode s c.args.to) (sym c.self.view_is) c.requires.to in
    let starts = All-take (λ (arc : Arc). IsThere graph.gone.items graph.received.items (start_of arc)) c.args.len graph.arcs.items kept.starts in
    let ends = All-take (λ (arc : Arc). IsThere graph.gone.items graph.received.items (end_of arc)) c.args.len graph.arcs.items kept.ends in
    rw (c.deref.ensures.value, c.deref-2.ensures.value, c.deref-3.ensures.value) record {
      arcs = λ k d within. (starts k d within, ends k d within);
      start = from;
      goal = to;
    }

pub returns : goal.returns
returns c =
    let found = rw (c.deref.ensures.value, c.deref-2.ensures.value, c.deref-3.ensures.value) at c.find_path.ensures in
    subst (λ (s : GraphState). IfOk c.find_path.result (λ found. MatchOption found (¬ Reaches s.gone s.received (take c.args.len s.arcs) c.args.from c.args.to)
    (λ path. Reaches s.gone s.received (take c.args.len s.arcs) c.args.from c.args.to × IsPathOf s.gone s.received (take c.args.len s.arcs) c.args.from path c.args.to))) c.self.view_is found
