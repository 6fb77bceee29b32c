use Rattle.std.proofs.Common.{◌∙◌, [], ap}
use Rattle.session_clocks.specs.Graphs.{GraphState}
use Rattle.session_clocks.specs.Marks.{marks_of}
use Rattle.session_clocks.proofs.Marked.{IsTrail-none}
use Rattle.session_clocks.proofs.graph.Graph.forget_marks.Goals as goal

pub invariant_of-self : goal.invariant_of-self
invariant_of-self c =
    let graph = c.self.inside in
    let kept = c.self.invariant.0.kept in (
      record {
        kept = kept;
        marked = IsTrail-none graph.gone.items graph.received.items kept.sessions graph.arcs.items graph.first.items graph.count.items c.clear.new.self c.clear.ensures.marks c.clear.ensures.first c.clear.ensures.count;
      },
      c.self.invariant.1,
    )

pub returns : goal.returns
returns c =
    let graph = c.self.inside in
    let without : GraphState → GraphState = λ s. record s { marks = [] } in
    (λ i. record { gone = graph.gone.items; received = graph.received.items; arcs = graph.arcs.items; marks = marks_of (c.clear.ensures.marks i) }) ∙ ap without c.self.view_is
