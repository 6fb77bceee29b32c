use Rattle.std.proofs.lemmas.Result.{on_ok_weaker}
use Rattle.txn.specs.declared.choices.Side.TheVariants.{First, Second}
use Rattle.session_clocks.specs.Graphs.{HasNode}
use Rattle.clock_choices.specs.Extending.{reached_in}
use Rattle.clock_choices.specs.Index.{IsRunThere}
use Rattle.clock_choices.proofs.Extending.{on_new}
use Rattle.clock_choices.proofs.Growths.{on_ok_two, decided_there, growth_both, forces_both, other_there, run_settled}
use Rattle.clock_choices.proofs.settling.settle_run.Goals as goal

pub force-requires-clause-found : goal.force-requires-clause-found
force-requires-clause-found c =
    let graph = c.args.graph.now in
    let run = c.args.run.now in
    decided_there (reached_in graph) (HasNode graph) First c.args.read run c.forced_before-count.result.1 (other_there graph.gone graph.received c.args.read run c.requires.run) c.forced_before-count.ensures

pub force-requires-2-clause-found : goal.force-requires-2-clause-found
force-requires-2-clause-found c =
    let graph = c.force.new.graph in
    let run = c.args.run.now in
    let there = on_new (λ gone received. IsRunThere gone received run) c.force.ensures.extends c.requires.run in
    decided_there (reached_in graph) (HasNode graph) Second c.args.read run c.forced_behind-first.result (other_there graph.gone graph.received c.args.read run there) c.forced_behind-first.ensures

pub returns-clause-growth : goal.returns-clause-growth
returns-clause-growth c = on_ok_weaker c.force-2.result (λ then. growth_both c.in_ok-force.ensures.growth then) c.force-2.ensures.growth

pub returns-clause-forces : goal.returns-clause-forces
returns-clause-forces c = on_ok_weaker c.force-2.result
    (λ then parts choices. forces_both c.force.ensures.extends (c.in_ok-force.ensures.forces parts c.args.run.now c.forced_before-count.ensures choices) (then parts c.args.run.now c.forced_behind-first.ensures choices)) c.force-2.ensures.forces

pub returns-clause-settled : goal.returns-clause-settled
returns-clause-settled c =
    let run = c.args.run.now in
    let before = c.in_ok-force.ensures.settled run c.requires.run c.forced_before-count.ensures in
    let there = on_new (λ gone received. IsRunThere gone received run) c.force.ensures.extends c.requires.run in
    on_ok_two c.force-2.result (λ growth behind. run_settled growth c.args.read run before (behind run there c.forced_behind-first.ensures)) c.force-2.ensures.growth c.force-2.ensures.settled
