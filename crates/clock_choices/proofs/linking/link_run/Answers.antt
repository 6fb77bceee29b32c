use Rattle.std.proofs.Common.{arith}
use Rattle.txn.specs.declared.choices.Arc.{Arc}
use Rattle.txn.specs.declared.choices.Arc.TheVariants.{Base}
use Rattle.clock_choices.specs.Index.{IsRunThere}
use Rattle.clock_choices.proofs.Extending.{on_new}
use Rattle.clock_choices.proofs.Growths.{by_last, on_ok_two}
use Rattle.clock_choices.proofs.Links.{base_arc_right, before_run, brings_none, brings_one, first_third_there}
use Rattle.clock_choices.proofs.linking.link_run.Goals as goal

pub first_from-requires : goal.first_from-requires
first_from-requires c = rw c.deref.ensures.value c.requires.run.climbs

pub link-requires : goal.link-requires
link-requires c =
    let graph = c.args.graph.now in
    let is_first = rw c.deref.ensures.value at c.in-Some.ensures in
    record { start = c.requires.reader; end = first_third_there graph.gone graph.received c.args.reader c.args.run.now c.requires.run c.in-Some.first is_first }

pub returns-in_default-clause-brings : goal.returns-in_default-clause-brings
returns-in_default-clause-brings c = λ parts runs are there reads.
    let none = rw c.deref.ensures.value at c.in_default.ensures in
    (brings_none parts c.args.graph.now c.args.due.now, λ other third. absurd (let below = none other third in omega (arith, below)))

pub returns-then-reaches-clause-brings : goal.returns-then-reaches-clause-brings
returns-then-reaches-clause-brings c = λ parts runs are there reads.
    let graph = c.args.graph.now in
    let is_first = rw c.deref.ensures.value at c.in-Some.ensures in
    (brings_none parts c.args.graph.now c.args.due.now, before_run graph.gone graph.received c.args.reader c.args.run.now c.requires.run graph.arcs c.in-Some.first is_first ((c.reaches.ensures.exact).0 c.if-reaches.true))

pub returns-clause-brings : goal.returns-clause-brings
returns-clause-brings c =
    let graph = c.args.graph.now in
    let new = c.link.new.graph in
    let there_then = on_new (λ gone received. IsRunThere gone received c.args.run.now) c.link.ensures.extends c.requires.run in
    let run = c.args.run.now in
    let first = c.in-Some.first in
    let arc : Arc = Base c.args.key c.args.reader first in
    let is_first = rw c.deref.ensures.value at c.in-Some.ensures in
    on_ok_two c.link.result (λ growth arcs parts runs are there reads. (
      brings_one parts arc arcs (base_arc_right parts c.args.key runs run c.args.reader first are there reads is_first.third) growth,
      before_run new.gone new.received c.args.reader run there_then new.arcs first is_first (by_last new.gone new.received graph.arcs new.arcs arc arcs),
    )) c.link.ensures.growth c.link.ensures.arcs
