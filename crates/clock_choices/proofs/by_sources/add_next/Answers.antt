use Rattle.std.proofs.Common.{◌∙◌, ℕ, [], List, sym, subst, arith, All}
use Rattle.std.proofs.lemmas.Result.{on_ok_weaker}
use Rattle.txn.specs.declared.choices.Arc.{Arc}
use Rattle.order_check.specs.Cycles.{IsArc}
use Rattle.session_clocks.specs.Graphs.{IsOneMore}
use Rattle.clock_choices.proofs.UpTo.{goes_one, index_climbs}
use Rattle.clock_choices.proofs.by_sources.add_next.Goals as goal

pub add_node-requires : goal.add_node-requires
add_node-requires c =
    let good = c.requires.good in
    let most = good.numbers c.args.session in
    let next = c.requires.next in
    record { session = c.requires.session; number = omega (arith, most, next) }

pub add_reads-requires : goal.add_reads-requires
add_reads-requires c = index_climbs c.args.parts.now c.args.index.now c.requires.index

pub returns-clause-up : goal.returns-clause-up
returns-clause-up c =
    let parts = c.args.parts.now in
    let index = c.args.index.now in
    let old = c.args.graph.now in
    let is = c.requires.graph in
    let at = c.requires.index in
    let of = at.reads c.in_ok-id.id in
    let one = subst (λ (xs : List ℕ). IsOneMore old.received xs c.args.session) (sym c.add_reads.ensures.extends.received) c.in_ok-id.ensures.received in
    let right = subst (λ (arcs : List Arc). All (IsArc parts []) arcs) (sym c.in_ok-id.ensures.arcs) is.right in
    on_ok_weaker c.add_reads.result (λ all. goes_one parts old c.add_reads.new.graph c.args.session is (c.add_reads.ensures.extends.gone ∙ c.in_ok-id.ensures.gone) one c.requires.next (all parts at.writers of.each right))
    (rw (c.reads_of.ensures, c.deref.ensures.value) at c.add_reads.ensures.right)
