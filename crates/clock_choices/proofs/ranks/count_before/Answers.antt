use Rattle.std.proofs.Common.{◌≡◌, ◌<◌, ℕ, length, ap, subst, arith}
use Rattle.txn.specs.declared.transactions.TxnId.{TxnId}
use Rattle.session_clocks.specs.Reach.{Reaches}
use Rattle.clock_choices.specs.AllThere.{there_below}
use Rattle.clock_choices.specs.Ranks.{Counts, none}
use Rattle.clock_choices.proofs.Counting.{count_fits, count_next}
use Rattle.clock_choices.proofs.ranks.count_before.Goals as goal

pub loop-session-init : goal.loop-session-init
loop-session-init c = none

pub overflow_add-count : goal.overflow_add-count
overflow_add-count c =
    let graph = c.args.graph.now in
    let before = c.before-in-loop-session.ensures in
    let end = ap length c.received-session-end.ensures.numbers in
    let less : c.loop-session.session < length graph.received = omega (arith, end, c.loop-session-test.true) in
    let fits = count_fits (λ (other : TxnId). Reaches graph.gone graph.received graph.arcs other c.args.id) graph.gone graph.received c.gone-gone.result.now c.loop-session.session c.loop-session.count c.before-in-loop-session.result c.gone-gone.ensures.numbers c.loop-session.invariant before.low before.high before.exact less in
    let few = c.requires.few in
    omega (arith, fits, few)

pub loop-session-preserved : goal.loop-session-preserved
loop-session-preserved c =
    let graph = c.args.graph.now in
    let before = c.before-in-loop-session.ensures in
    count_next (λ (other : TxnId). Reaches graph.gone graph.received graph.arcs other c.args.id) graph.gone graph.received c.gone-gone.result.now c.loop-session.session c.loop-session.count c.before-in-loop-session.result c.gone-gone.ensures.numbers c.loop-session.invariant before.low before.high before.exact

pub returns : goal.returns
returns c =
    let graph = c.args.graph.now in
    let len = ap length c.received-session-end.ensures.numbers in
    let all : c.loop-session.session ≡ length graph.received = omega (arith, len, c.loop-session-test.false, c.loop-session.auto.session-end) in
    subst (λ (n : ℕ). Counts (λ (other : TxnId). Reaches graph.gone graph.received graph.arcs other c.args.id) (there_below graph.gone graph.received n) c.loop-session.count) all c.loop-session.invariant
