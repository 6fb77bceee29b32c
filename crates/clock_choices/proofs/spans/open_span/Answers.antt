use Rattle.std.proofs.Common.{ℕ, refl}
use Rattle.txn.specs.declared.transactions.TxnId.{TxnId}
use Rattle.session_clocks.specs.Reach.{Reaches, through}
use Rattle.clock_choices.specs.Spans.{id_at}
use Rattle.clock_choices.proofs.OpenSpans.{open_span_is, none_open}
use Rattle.clock_choices.proofs.spans.open_span.Goals as goal

pub returns : goal.returns
returns c =
    let graph = c.args.graph.now in
    let numbers = c.args.numbers.now in
    let session = c.args.session in
    let at : ℕ → TxnId = λ place. id_at session numbers place in
    open_span_is (Reaches graph.gone graph.received graph.arcs) (λ a b d first second. through a b d first second) c.args.read session numbers c.before-before.result c.after-after.result c.count_below-from.result c.count_below-to.result
    c.requires.read c.count_below-from.ensures c.count_below-to.ensures
    (λ place within is. (c.before-before.ensures.exact (at place) refl (c.requires.there place within)).1 is)
    (λ place within low. (c.before-before.ensures.exact (at place) refl (c.requires.there place within)).0 low)
    (λ place within is. (c.after-after.ensures.exact (at place) refl (c.requires.there place within)).1 is)
    (λ place within high. (c.after-after.ensures.exact (at place) refl (c.requires.there place within)).0 high)
    c.max.result c.max.ensures

pub returns-then-after-before : goal.returns-then-after-before
returns-then-after-before c =
    let graph = c.args.graph.now in
    let numbers = c.args.numbers.now in
    let session = c.args.session in
    let at : ℕ → TxnId = λ place. id_at session numbers place in
    none_open (Reaches graph.gone graph.received graph.arcs) c.args.read session numbers c.before-before.result c.after-after.result
    (λ place within low. (c.before-before.ensures.exact (at place) refl (c.requires.there place within)).0 low)
    (λ place within high. (c.after-after.ensures.exact (at place) refl (c.requires.there place within)).0 high)
    c.if-after-before.true
