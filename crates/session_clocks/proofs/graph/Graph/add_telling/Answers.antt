use Rattle.std.proofs.Common.{◌≡◌, ◌≢◌, ◌++◌, ◌∷◌, [], ℕ, List, Vec, Global, arith, ap, sym, subst, subst₂, ◌∙◌}
use Rattle.std.specs.Prelude.{reverse}
use Rattle.std.specs.Vec.{with_items}
use Rattle.std.proofs.lemmas.List.{with_items_is}
use Rattle.txn.specs.declared.choices.Arc.{Arc}
use Rattle.txn.specs.Arcs.{start_of, end_of}
use Rattle.session_clocks.specs.declared.trail.Mark.{Mark}
use Rattle.session_clocks.specs.declared.trail.Saved.{Saved}
use Rattle.session_clocks.specs.Additions.{AreTold}
use Rattle.session_clocks.specs.Graphs.{GraphState, HasNode, last_mark}
use Rattle.session_clocks.specs.Marks.{marks_of, SayFirsts, IsMarkedGraph}
use Rattle.session_clocks.specs.Reach.{Reaches}
use Rattle.session_clocks.specs.Sweeps.{FitTops, FitSpans}
use Rattle.session_clocks.specs.SavedNumbers.{place_in, IsMoreOf, since, AreTailsSaved, AreSpansSaved}
use Rattle.session_clocks.proofs.Kept.{HasRow-first, HasRow-count, IsKept-known, IsKept-joined, FitTops-is, FitSpans-is}
use Rattle.session_clocks.proofs.Marked.{IsTrail-known, IsTrail-saved, IsTrail-joined, last_mark-push}
use Rattle.session_clocks.proofs.Noted.{IsFrontOf-same, IsFrontOf-both}
use Rattle.session_clocks.proofs.Orders.{there_within}
use Rattle.session_clocks.proofs.Told.{AreTold-known, AreTold-noted}
use Rattle.session_clocks.proofs.Trails.{IsMoreOf-none}
use Rattle.session_clocks.proofs.NodesKept.{AreNodes-linked}
use Rattle.session_clocks.proofs.graph.Graph.add_telling.Goals as goal

pub invariant_of-self-then-reaches : goal.invariant_of-self-then-reaches
invariant_of-self-then-reaches c =
    let graph = c.self.inside in
    let start = subst (λ (s : GraphState). HasNode s (start_of c.args.arc)) (sym c.self.view_is) c.requires.start in
    let end = subst (λ (s : GraphState). HasNode s (end_of c.args.arc)) (sym c.self.view_is) c.requires.end in
    let known = rw (c.start.ensures, c.end.ensures) at ((c.reaches.ensures.exact).0 c.if-reaches.true) in
    let here = subst (λ (s : GraphState). Reaches s.gone s.received s.arcs (start_of c.args.arc) (end_of c.args.arc)) (sym c.self.view_is) known in
    rw c.in_ok-push_arc.ensures.ok (
      record {
        kept = IsKept-known graph.gone.items graph.received.items graph.arcs.items graph.first.items graph.count.items c.self.invariant.0.kept c.args.arc start end here;
        marked = IsTrail-known graph.gone.items graph.received.items c.self.invariant.0.kept.sessions graph.arcs.items graph.first.items graph.count.items c.args.arc graph.trail c.self.invariant.0.marked;
      },
      AreNodes-linked graph.gone.items graph.received.items graph.nodes.nodes.slots c.push_arc.new.nodes.nodes.slots graph.nodes.keys c.push_arc.new.nodes.keys c.push_arc.ensures.nodes c.push_arc.ensures.keys c.self.invariant.1,
    )

pub count_row-requires-clause-row : goal.count_row-requires-clause-row
count_row-requires-clause-row c =
    let graph = c.self.inside in
    let start = subst (λ (s : GraphState). HasNode s (start_of c.args.arc)) (sym c.self.view_is) c.requires.start in
    rw (c.deref-2.ensures.value, c.deref-3.ensures.value, c.start-2.ensures) (HasRow-count graph.gone.items graph.received.items graph.arcs.items graph.first.items graph.count.items c.self.invariant.0.kept (start_of c.args.arc) start)

pub first_row-requires : goal.first_row-requires
first_row-requires c =
    let graph = c.self.inside in
    let end = subst (λ (s : GraphState). HasNode s (end_of c.args.arc)) (sym c.self.view_is) c.requires.end in
    record { row = rw (c.deref-4.ensures.value, c.deref-5.ensures.value, c.end-2.ensures) (HasRow-first graph.gone.items graph.received.items graph.arcs.items graph.first.items graph.count.items c.self.invariant.0.kept (end_of c.args.arc) end) }

pub save_first-requires-clause-fit : goal.save_first-requires-clause-fit
save_first-requires-clause-fit c =
    let graph = c.self.inside in
    let start = subst (λ (s : GraphState). HasNode s (start_of c.args.arc)) (sym c.self.view_is) c.requires.start in
    let end = subst (λ (s : GraphState). HasNode s (end_of c.args.arc)) (sym c.self.view_is) c.requires.end in
    let tops = rw (c.deref-2.ensures.value, c.deref-3.ensures.value, c.start-2.ensures) at c.in_ok-tops.ensures in
    let starts = rw (c.deref-4.ensures.value, c.deref-5.ensures.value, c.end-2.ensures) at c.in_ok-starts.ensures in
    rw (c.deref-6.ensures.value, c.deref-7.ensures.value, c.deref-8.ensures.value, c.deref-9.ensures.value)
    (FitTops-is graph.gone.items graph.received.items graph.arcs.items graph.first.items graph.count.items c.self.invariant.0.kept c.args.arc start end c.in_ok-tops.tops.items c.in_ok-starts.starts.items tops starts)

pub save_count-requires-clause-fit : goal.save_count-requires-clause-fit
save_count-requires-clause-fit c =
    let graph = c.self.inside in
    let start = subst (λ (s : GraphState). HasNode s (start_of c.args.arc)) (sym c.self.view_is) c.requires.start in
    let end = subst (λ (s : GraphState). HasNode s (end_of c.args.arc)) (sym c.self.view_is) c.requires.end in
    let tops = rw (c.deref-2.ensures.value, c.deref-3.ensures.value, c.start-2.ensures) at c.in_ok-tops.ensures in
    let starts = rw (c.deref-4.ensures.value, c.deref-5.ensures.value, c.end-2.ensures) at c.in_ok-starts.ensures in
    rw (c.deref-10.ensures.value, c.deref-11.ensures.value, c.deref-12.ensures.value, c.deref-13.ensures.value, c.deref-14.ensures.value)
    (FitSpans-is graph.gone.items graph.received.items graph.arcs.items graph.first.items graph.count.items c.self.invariant.0.kept c.args.arc start end c.in_ok-tops.tops.items c.in_ok-starts.starts.items tops starts)

pub lower_all-requires-clause-fit : goal.lower_all-requires-clause-fit
lower_all-requires-clause-fit c =
    let graph = c.self.inside in
    let start = subst (λ (s : GraphState). HasNode s (start_of c.args.arc)) (sym c.self.view_is) c.requires.start in
    let end = subst (λ (s : GraphState). HasNode s (end_of c.args.arc)) (sym c.self.view_is) c.requires.end in
    let tops = rw (c.deref-2.ensures.value, c.deref-3.ensures.value, c.start-2.ensures) at c.in_ok-tops.ensures in
    let starts = rw (c.deref-4.ensures.value, c.deref-5.ensures.value, c.end-2.ensures) at c.in_ok-starts.ensures in
    rw (c.deref_mut.ensures.value, c.deref-23.ensures.value, c.deref-24.ensures.value, c.deref-25.ensures.value)
    (FitTops-is graph.gone.items graph.received.items graph.arcs.items graph.first.items graph.count.items c.self.invariant.0.kept c.args.arc start end c.in_ok-tops.tops.items c.in_ok-starts.starts.items tops starts)

pub raise_all-requires-clause-fit : goal.raise_all-requires-clause-fit
raise_all-requires-clause-fit c =
    let graph = c.self.inside in
    let start = subst (λ (s : GraphState). HasNode s (start_of c.args.arc)) (sym c.self.view_is) c.requires.start in
    let end = subst (λ (s : GraphState). HasNode s (end_of c.args.arc)) (sym c.self.view_is) c.requires.end in
    let tops = rw (c.deref-2.ensures.value, c.deref-3.ensures.value, c.start-2.ensures) at c.in_ok-tops.ensures in
    let starts = rw (c.deref-4.ensures.value, c.deref-5.ensures.value, c.end-2.ensures) at c.in_ok-starts.ensures in
    rw (c.deref_mut-2.ensures.value, c.deref-26.ensures.value, c.deref-27.ensures.value, c.deref-28.ensures.value, c.deref-29.ensures.value)
    (FitSpans-is graph.gone.items graph.received.items graph.arcs.items graph.first.items graph.count.items c.self.invariant.0.kept c.args.arc start end c.in_ok-tops.tops.items c.in_ok-starts.starts.items tops starts)

pub invariant_of-self-in_err-save_first : goal.invariant_of-self-in_err-save_first
invariant_of-self-in_err-save_first c =
    let graph = c.self.inside in
    let more = subst (λ lines. IsMoreOf lines graph.trail.first.items c.save_first.new.self.first.items) c.deref-6.ensures.value c.save_first.ensures.more in
    let same = subst (λ (v : Vec Saved Global). IsMoreOf graph.count.items graph.trail.count.items v.items) (sym c.save_first.ensures.count) (IsMoreOf-none graph.count.items graph.trail.count.items) in (
      record {
        kept = c.self.invariant.0.kept;
        marked = IsTrail-saved graph.gone.items graph.received.items c.self.invariant.0.kept.sessions graph.arcs.items graph.first.items graph.count.items graph.trail c.save_first.new.self c.save_first.ensures.marks more same c.self.invariant.0.marked;
      },
      c.self.invariant.1,
    )

pub invariant_of-self-in_err-save_count : goal.invariant_of-self-in_err-save_count
invariant_of-self-in_err-save_count c =
    let graph = c.self.inside in
    let first = subst (λ lines. IsMoreOf lines graph.trail.first.items c.save_first.new.self.first.items) c.deref-6.ensures.value c.save_first.ensures.more in
    let more_first = subst (λ (v : Vec Saved Global). IsMoreOf graph.first.items graph.trail.first.items v.items) (sym c.save_count.ensures.first) first in
    let count = subst (λ lines. IsMoreOf lines c.save_first.new.self.count.items c.save_count.new.self.count.items) c.deref-10.ensures.value c.save_count.ensures.more in
    let more_count = subst (λ (v : Vec Saved Global). IsMoreOf graph.count.items v.items c.save_count.new.self.count.items) c.save_first.ensures.count count in (
      record {
        kept = c.self.invariant.0.kept;
        marked = IsTrail-saved graph.gone.items graph.received.items c.self.invariant.0.kept.sessions graph.arcs.items graph.first.items graph.count.items graph.trail c.save_count.new.self (c.save_count.ensures.marks ∙ c.save_first.ensures.marks) more_first more_count c.self.invariant.0.marked;
      },
      c.self.invariant.1,
    )

pub invariant_of-self-in_err-push_arc-2 : goal.invariant_of-self-in_err-push_arc-2
invariant_of-self-in_err-push_arc-2 c =
    let graph = c.self.inside in
    let first = subst (λ lines. IsMoreOf lines graph.trail.first.items c.save_first.new.self.first.items) c.deref-6.ensures.value c.save_first.ensures.more in
    let more_first = subst (λ (v : Vec Saved Global). IsMoreOf graph.first.items graph.trail.first.items v.items) (sym c.save_count.ensures.first) first in
    let count = subst (λ lines. IsMoreOf lines c.save_first.new.self.count.items c.save_count.new.self.count.items) c.deref-10.ensures.value c.save_count.ensures.more in
    let more_count = subst (λ (v : Vec Saved Global). IsMoreOf graph.count.items v.items c.save_count.new.self.count.items) c.save_first.ensures.count count in
    rw c.in_err-push_arc-2.ensures.err (
      record {
        kept = c.self.invariant.0.kept;
        marked = IsTrail-saved graph.gone.items graph.received.items c.self.invariant.0.kept.sessions graph.arcs.items graph.first.items graph.count.items graph.trail c.save_count.new.self (c.save_count.ensures.marks ∙ c.save_first.ensures.marks) more_first more_count c.self.invariant.0.marked;
      },
      AreNodes-linked graph.gone.items graph.received.items graph.nodes.nodes.slots c.push_arc-2.new.nodes.nodes.slots graph.nodes.keys c.push_arc-2.new.nodes.keys c.push_arc-2.ensures.nodes c.push_arc-2.ensures.keys c.self.invariant.1,
    )

pub invariant_of-self-2 : goal.invariant_of-self-2
invariant_of-self-2 c =
    let graph = c.self.inside in
    let start = subst (λ (s : GraphState). HasNode s (start_of c.args.arc)) (sym c.self.view_is) c.requires.start in
    let end = subst (λ (s : GraphState). HasNode s (end_of c.args.arc)) (sym c.self.view_is) c.requires.end in
    let tops = rw (c.deref-2.ensures.value, c.deref-3.ensures.value, c.start-2.ensures) at c.in_ok-tops.ensures in
    let starts = rw (c.deref-4.ensures.value, c.deref-5.ensures.value, c.end-2.ensures) at c.in_ok-starts.ensures in
    let lowered = rw (c.deref_mut.ensures.value, c.deref-23.ensures.value, c.deref-24.ensures.value, c.end-5.ensures, c.deref-25.ensures.value) at c.lower_all.ensures in
    let raised = rw (c.deref_mut-2.ensures.value, c.deref-26.ensures.value, c.deref-27.ensures.value, c.deref-28.ensures.value, c.start-5.ensures, c.deref-29.ensures.value) at c.raise_all.ensures in
    let more_first_1 = subst (λ lines. IsMoreOf lines graph.trail.first.items c.save_first.new.self.first.items) c.deref-6.ensures.value c.save_first.ensures.more in
    let more_first = subst (λ (v : Vec Saved Global). IsMoreOf graph.first.items graph.trail.first.items v.items) (sym c.save_count.ensures.first) more_first_1 in
    let more_count_1 = subst (λ lines. IsMoreOf lines c.save_first.new.self.count.items c.save_count.new.self.count.items) c.deref-10.ensures.value c.save_count.ensures.more in
    let more_count = subst (λ (v : Vec Saved Global). IsMoreOf graph.count.items v.items c.save_count.new.self.count.items) c.save_first.ensures.count more_count_1 in
    let saved_first_1 = rw (c.deref-6.ensures.value, c.deref-7.ensures.value, c.deref-8.ensures.value, c.end-3.ensures, c.deref-9.ensures.value) at c.in_ok-save_first.ensures.saved in
    let saved_first = subst (λ (v : Vec Saved Global). graph.trail.marks.items ≢ [] → AreTailsSaved graph.first.items (since graph.trail.first.items v.items) graph.gone.items c.in_ok-tops.tops.items (end_of c.args.arc) c.in_ok-starts.starts.items) (sym c.save_count.ensures.first) saved_first_1 in
    let saved_count_1 = rw (c.deref-10.ensures.value, c.deref-11.ensures.value, c.deref-12.ensures.value, c.deref-13.ensures.value, c.start-3.ensures, c.deref-14.ensures.value) at c.in_ok-save_count.ensures.saved in
    let saved_count_2 = subst (λ (v : Vec Saved Global). c.save_first.new.self.marks.items ≢ [] → AreSpansSaved graph.count.items (since v.items c.save_count.new.self.count.items) graph.gone.items graph.received.items c.in_ok-starts.starts.items (start_of c.args.arc) c.in_ok-tops.tops.items) c.save_first.ensures.count saved_count_1 in
    let saved_count = subst (λ (v : Vec Mark Global). v.items ≢ [] → AreSpansSaved graph.count.items (since graph.trail.count.items c.save_count.new.self.count.items) graph.gone.items graph.received.items c.in_ok-starts.starts.items (start_of c.args.arc) c.in_ok-tops.tops.items) c.save_first.ensures.marks saved_count_2 in
    let kept = IsKept-joined graph.gone.items graph.received.items graph.arcs.items graph.first.items graph.count.items c.self.invariant.0.kept c.args.arc start end c.in_ok-tops.tops.items c.in_ok-starts.starts.items tops starts c.lower_all.new.lines c.raise_all.new.lines lowered raised in
    let start_within = there_within graph.gone.items graph.received.items (start_of c.args.arc) c.self.invariant.0.kept.sessions start in
    let end_within = there_within graph.gone.items graph.received.items (end_of c.args.arc) c.self.invariant.0.kept.sessions end in
    let marked = IsTrail-joined graph.gone.items graph.received.items c.self.invariant.0.kept.sessions graph.arcs.items graph.first.items graph.count.items c.args.arc c.lower_all.new.lines c.raise_all.new.lines c.in_ok-tops.tops.items c.in_ok-starts.starts.items graph.trail c.save_count.new.self (c.save_count.ensures.marks ∙ c.save_first.ensures.marks)
    (omega (arith, start_within, tops.len)) (omega (arith, end_within, starts.len)) lowered raised more_first more_count saved_first saved_count c.self.invariant.0.marked in
    let first : (with_items graph.first c.lower_all.new.lines).items ≡ c.lower_all.new.lines = with_items_is graph.first c.lower_all.new.lines (lowered.long.sessions ∙ sym graph.first.ok.0) in
    let count : (with_items graph.count c.raise_all.new.lines).items ≡ c.raise_all.new.lines = with_items_is graph.count c.raise_all.new.lines (raised.long.sessions ∙ sym graph.count.ok.0) in
    rw c.in_ok-push_arc-2.ensures.ok ((subst₂ (λ (f n : List (Vec ℕ Global)). IsMarkedGraph graph.gone.items graph.received.items (graph.arcs.items ++ c.args.arc ∷ []) f n c.save_count.new.self) (sym first) (sym count) (record { kept = kept; marked = marked })), AreNodes-linked graph.gone.items graph.received.items graph.nodes.nodes.slots c.push_arc-2.new.nodes.nodes.slots graph.nodes.keys c.push_arc-2.new.nodes.keys c.push_arc-2.ensures.nodes c.push_arc-2.ensures.keys c.self.invariant.1)

pub returns-then-reaches-clause-last : goal.returns-then-reaches-clause-last
returns-then-reaches-clause-last c =
    let graph = c.self.inside in
    let here = ap (λ (arcs : List Arc). last_mark (record { gone = graph.gone.items; received = graph.received.items; arcs = arcs; marks = marks_of graph.trail.marks.items })) c.in_ok-push_arc.ensures.ok in
    let before = last_mark-push (SayFirsts graph.gone.items graph.received.items) (λ mark. mark.first) graph.gone.items graph.received.items graph.arcs.items (c.args.arc ∷ []) (place_in graph.first.items) graph.trail.first.items (reverse graph.trail.marks.items) c.self.invariant.0.marked.firsts.marked in
    here ∙ before ∙ ap (λ (g : GraphState). last_mark g) c.self.view_is

pub returns-clause-last : goal.returns-clause-last
returns-clause-last c =
    let graph = c.self.inside in
    let here = ap (λ (arcs : List Arc). last_mark (record { gone = graph.gone.items; received = graph.received.items; arcs = arcs; marks = marks_of c.save_count.new.self.marks.items })) c.in_ok-push_arc-2.ensures.ok in
    let marks = ap (λ (ms : Vec Mark Global). last_mark (record { gone = graph.gone.items; received = graph.received.items; arcs = graph.arcs.items ++ c.args.arc ∷ []; marks = marks_of ms.items })) (c.save_count.ensures.marks ∙ c.save_first.ensures.marks) in
    let before = last_mark-push (SayFirsts graph.gone.items graph.received.items) (λ mark. mark.first) graph.gone.items graph.received.items graph.arcs.items (c.args.arc ∷ []) (place_in graph.first.items) graph.trail.first.items (reverse graph.trail.marks.items) c.self.invariant.0.marked.firsts.marked in
    here ∙ marks ∙ before ∙ ap (λ (g : GraphState). last_mark g) c.self.view_is

pub note_tails-requires : goal.note_tails-requires
note_tails-requires c =
    let graph = c.self.inside in
    let kept = c.self.invariant.0.kept in
    let start = subst (λ (s : GraphState). HasNode s (start_of c.args.arc)) (sym c.self.view_is) c.requires.start in
    let end = subst (λ (s : GraphState). HasNode s (end_of c.args.arc)) (sym c.self.view_is) c.requires.end in
    let tops = rw (c.deref-2.ensures.value, c.deref-3.ensures.value, c.start-2.ensures) at c.in_ok-tops.ensures in
    let starts = rw (c.deref-4.ensures.value, c.deref-5.ensures.value, c.end-2.ensures) at c.in_ok-starts.ensures in
    let fit = FitTops-is graph.gone.items graph.received.items graph.arcs.items graph.first.items graph.count.items kept c.args.arc start end c.in_ok-tops.tops.items c.in_ok-starts.starts.items tops starts in
    let within = there_within graph.gone.items graph.received.items (end_of c.args.arc) kept.sessions end in
    rw (c.deref-15.ensures.value, c.deref-16.ensures.value, c.deref-17.ensures.value, c.end-4.ensures) record {
      session = within;
      few = omega (arith, kept.first_lines.sessions, kept.few);
      fit = subst (λ w. FitTops graph.first.items graph.gone.items c.in_ok-tops.tops.items w) starts.len fit;
    }

pub note_spans-requires : goal.note_spans-requires
note_spans-requires c =
    let graph = c.self.inside in
    let kept = c.self.invariant.0.kept in
    let start = subst (λ (s : GraphState). HasNode s (start_of c.args.arc)) (sym c.self.view_is) c.requires.start in
    let end = subst (λ (s : GraphState). HasNode s (end_of c.args.arc)) (sym c.self.view_is) c.requires.end in
    let tops = rw (c.deref-2.ensures.value, c.deref-3.ensures.value, c.start-2.ensures) at c.in_ok-tops.ensures in
    let starts = rw (c.deref-4.ensures.value, c.deref-5.ensures.value, c.end-2.ensures) at c.in_ok-starts.ensures in
    let fit = FitSpans-is graph.gone.items graph.received.items graph.arcs.items graph.first.items graph.count.items kept c.args.arc start end c.in_ok-tops.tops.items c.in_ok-starts.starts.items tops starts in
    let within = there_within graph.gone.items graph.received.items (start_of c.args.arc) kept.sessions start in
    rw (c.deref-18.ensures.value, c.deref-19.ensures.value, c.deref-20.ensures.value, c.deref-21.ensures.value, c.start-4.ensures) record {
      session = within;
      few = omega (arith, kept.count_lines.sessions, kept.few);
      fit = subst (λ w. FitSpans graph.count.items graph.gone.items graph.received.items c.in_ok-starts.starts.items w) tops.len fit;
    }

pub invariant_of-self-in_err-note_tails : goal.invariant_of-self-in_err-note_tails
invariant_of-self-in_err-note_tails c =
    let graph = c.self.inside in
    let first = subst (λ lines. IsMoreOf lines graph.trail.first.items c.save_first.new.self.first.items) c.deref-6.ensures.value c.save_first.ensures.more in
    let more_first = subst (λ (v : Vec Saved Global). IsMoreOf graph.first.items graph.trail.first.items v.items) (sym c.save_count.ensures.first) first in
    let count = subst (λ lines. IsMoreOf lines c.save_first.new.self.count.items c.save_count.new.self.count.items) c.deref-10.ensures.value c.save_count.ensures.more in
    let more_count = subst (λ (v : Vec Saved Global). IsMoreOf graph.count.items v.items c.save_count.new.self.count.items) c.save_first.ensures.count count in (
      record {
        kept = c.self.invariant.0.kept;
        marked = IsTrail-saved graph.gone.items graph.received.items c.self.invariant.0.kept.sessions graph.arcs.items graph.first.items graph.count.items graph.trail c.save_count.new.self (c.save_count.ensures.marks ∙ c.save_first.ensures.marks) more_first more_count c.self.invariant.0.marked;
      },
      c.self.invariant.1,
    )

pub invariant_of-self-in_err-note_spans : goal.invariant_of-self-in_err-note_spans
invariant_of-self-in_err-note_spans c =
    let graph = c.self.inside in
    let first = subst (λ lines. IsMoreOf lines graph.trail.first.items c.save_first.new.self.first.items) c.deref-6.ensures.value c.save_first.ensures.more in
    let more_first = subst (λ (v : Vec Saved Global). IsMoreOf graph.first.items graph.trail.first.items v.items) (sym c.save_count.ensures.first) first in
    let count = subst (λ lines. IsMoreOf lines c.save_first.new.self.count.items c.save_count.new.self.count.items) c.deref-10.ensures.value c.save_count.ensures.more in
    let more_count = subst (λ (v : Vec Saved Global). IsMoreOf graph.count.items v.items c.save_count.new.self.count.items) c.save_first.ensures.count count in (
      record {
        kept = c.self.invariant.0.kept;
        marked = IsTrail-saved graph.gone.items graph.received.items c.self.invariant.0.kept.sessions graph.arcs.items graph.first.items graph.count.items graph.trail c.save_count.new.self (c.save_count.ensures.marks ∙ c.save_first.ensures.marks) more_first more_count c.self.invariant.0.marked;
      },
      c.self.invariant.1,
    )

pub returns-then-reaches-clause-told : goal.returns-then-reaches-clause-told
returns-then-reaches-clause-told c =
    let known = rw (c.start.ensures, c.end.ensures) at ((c.reaches.ensures.exact).0 c.if-reaches.true) in
    AreTold-known c.args.self.now.gone c.args.self.now.received c.args.self.now.arcs c.args.arc c.args.told.now.items known

pub returns-clause-told : goal.returns-clause-told
returns-clause-told c =
    let graph = c.self.inside in
    let kept = c.self.invariant.0.kept in
    let start = subst (λ (s : GraphState). HasNode s (start_of c.args.arc)) (sym c.self.view_is) c.requires.start in
    let end = subst (λ (s : GraphState). HasNode s (end_of c.args.arc)) (sym c.self.view_is) c.requires.end in
    let tops = rw (c.deref-2.ensures.value, c.deref-3.ensures.value, c.start-2.ensures) at c.in_ok-tops.ensures in
    let starts = rw (c.deref-4.ensures.value, c.deref-5.ensures.value, c.end-2.ensures) at c.in_ok-starts.ensures in
    let tails = rw (c.deref-15.ensures.value, c.deref-16.ensures.value, c.deref-17.ensures.value, c.end-4.ensures) at c.in_ok-note_tails.ensures.noted in
    let spans = rw (c.deref-18.ensures.value, c.deref-19.ensures.value, c.deref-20.ensures.value, c.deref-21.ensures.value, c.start-4.ensures) at c.in_ok-note_spans.ensures.noted in
    subst (λ (s : GraphState). AreTold s.gone s.received s.arcs c.args.arc c.args.told.now.items c.note_spans.new.noted.items) c.self.view_is
    (AreTold-noted graph.gone.items graph.received.items graph.arcs.items graph.first.items graph.count.items kept c.args.arc start end c.in_ok-tops.tops.items c.in_ok-starts.starts.items tops starts
    c.args.told.now.items c.note_tails.new.noted.items c.note_spans.new.noted.items c.note_tails.ensures.front c.note_spans.ensures.front tails spans)

pub returns-in_err-note_spans-clause-front : goal.returns-in_err-note_spans-clause-front
returns-in_err-note_spans-clause-front c = IsFrontOf-both c.args.told.now.items c.note_tails.new.noted.items c.note_spans.new.noted.items c.note_tails.ensures.front c.note_spans.ensures.front

pub returns-in_err-push_arc-2-clause-front : goal.returns-in_err-push_arc-2-clause-front
returns-in_err-push_arc-2-clause-front c = IsFrontOf-both c.args.told.now.items c.note_tails.new.noted.items c.note_spans.new.noted.items c.note_tails.ensures.front c.note_spans.ensures.front

pub returns-clause-front : goal.returns-clause-front
returns-clause-front c = IsFrontOf-both c.args.told.now.items c.note_tails.new.noted.items c.note_spans.new.noted.items c.note_tails.ensures.front c.note_spans.ensures.front

pub returns-in_err-push_arc-clause-front : goal.returns-in_err-push_arc-clause-front
returns-in_err-push_arc-clause-front c = IsFrontOf-same c.args.told.now.items

pub returns-in_err-tops-clause-front : goal.returns-in_err-tops-clause-front
returns-in_err-tops-clause-front c = IsFrontOf-same c.args.told.now.items

pub returns-in_err-starts-clause-front : goal.returns-in_err-starts-clause-front
returns-in_err-starts-clause-front c = IsFrontOf-same c.args.told.now.items

pub returns-in_err-save_first-clause-front : goal.returns-in_err-save_first-clause-front
returns-in_err-save_first-clause-front c = IsFrontOf-same c.args.told.now.items

pub returns-in_err-save_count-clause-front : goal.returns-in_err-save_count-clause-front
returns-in_err-save_count-clause-front c = IsFrontOf-same c.args.told.now.items

pub returns-then-reaches-clause-front : goal.returns-then-reaches-clause-front
returns-then-reaches-clause-front c = IsFrontOf-same c.args.told.now.items

pub invariant_of-self : goal.invariant_of-self
invariant_of-self c =
    let graph = c.self.inside in
    rw c.in_err-push_arc.ensures.err (c.self.invariant.0, AreNodes-linked graph.gone.items graph.received.items graph.nodes.nodes.slots c.push_arc.new.nodes.nodes.slots graph.nodes.keys c.push_arc.new.nodes.keys c.push_arc.ensures.nodes c.push_arc.ensures.keys c.self.invariant.1)
