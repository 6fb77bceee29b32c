use Rattle.std.proofs.Common.{◌≡◌, ◌∙◌, ◌++◌, ℕ, List, length, length-append, length-drop, length-take, drop, take, ap, subst, arith, All}
use Rattle.std.proofs.lemmas.List.Elements.{All-contains, All-more, All-nil, All-weaker}
use Rattle.txn.specs.declared.transactions.TxnId.{TxnId}
use Rattle.session_clocks.specs.Graphs.{HasNode}
use Rattle.clock_choices.proofs.Settled.{take_all}
use Rattle.clock_choices.proofs.UpTo.{there_stays, up_to_none, whole_graph}
use Rattle.clock_choices.proofs.by_sources.graph_by_sources.Goals as goal

abbrev none : TxnId
none = record { session = 0; number = 0 }

-- what is written back at the front leaves the length as it was
same_length : (xs ys : List ℕ) (n : ℕ) → n ≡ length xs → length ys ≡ length xs → length (take n (ys ++ drop (length ys) xs)) ≡ length xs
same_length xs ys n is same =
    let rest = drop (length ys) xs in
    omega (arith, length-take n (ys ++ rest), length-append ys rest, length-drop (length ys) xs, is, same)

pub loop-id-init : goal.loop-id-init
loop-id-init c =
    let graph = c.in_ok-graph.graph in
    let len = c.in_ok-resize.ensures.len in
    let whole = c.resize.new.self.ok.0 in
    record {
      up = up_to_none c.args.parts.now graph c.requires.good (c.in_ok-graph.ensures.gone ∙ c.as_slice.ensures) (c.in_ok-graph.ensures.received ∙ c.as_slice.ensures) c.in_ok-graph.ensures.arcs;
      ready = omega (arith, len, whole, c.sessions.ensures);
      there = All-nil (HasNode graph);
    }

pub loop-id-preserved : goal.loop-id-preserved
loop-id-preserved c =
    let was = c.loop-id.invariant in
    let parts = c.args.parts.now in
    let ids = c.args.ids.now in
    let old = c.loop-id.graph in
    let new = c.add_up_to.new.graph in
    let up = c.in_ok-add_up_to.ensures.up in
    let same : length c.add_up_to.new.ready ≡ length c.loop-id.ready.items = c.add_up_to.ensures.ready ∙ ap (λ (xs : List ℕ). length xs) c.deref_mut.ensures.value in
    record {
      up = up.up_to;
      ready = same_length c.loop-id.ready.items c.add_up_to.new.ready c.loop-id.ready.len c.loop-id.ready.ok.0 same ∙ was.ready;
      there = All-more (HasNode new) ids c.loop-id.id-index none c.loop-id-test.true (All-weaker (HasNode old) (HasNode new) (λ id there. there_stays parts old new up id there) (take c.loop-id.id-index ids) was.there) c.in_ok-add_up_to.ensures.there;
    }

pub returns : goal.returns
returns c =
    let was = c.loop-id.invariant in
    let ids = c.args.ids.now in
    let graph = c.loop-id.graph in
    let all = subst (λ (some : List TxnId). All (HasNode graph) some) (take_all ids c.loop-id.id-index c.loop-id-test.false) was.there in
    whole_graph c.args.parts.now graph was.up (λ id remains. All-contains (HasNode graph) ids id all ((c.requires.ids id).1 remains))
