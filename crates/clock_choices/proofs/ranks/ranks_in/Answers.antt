use Rattle.std.proofs.Common.{length, ap, arith}
use Rattle.session_clocks.specs.Reach.{Reaches}
use Rattle.clock_choices.specs.AllThere.{all_there}
use Rattle.clock_choices.proofs.Counting.{counted_next, ids_push}
use Rattle.clock_choices.proofs.Theres.{all_there_is}
use Rattle.clock_choices.proofs.ranks.ranks_in.Goals as goal

pub count_before-count-requires-clause-few : goal.count_before-count-requires-clause-few
count_before-count-requires-clause-few c =
    let graph = c.args.graph.now in
    let len = ap length (all_there_is graph.gone graph.received c.args.ids.now c.requires.rise c.requires.there) in
    omega (arith, len)

pub loop-id-preserved : goal.loop-id-preserved
loop-id-preserved c =
    let graph = c.args.graph.now in
    let ids = c.args.ids.now in
    let pushed = c.in_ok-push.ensures.items in
    let same = all_there_is graph.gone graph.received ids c.requires.rise c.requires.there in
    record {
      ids = ids_push c.loop-id.ranks.items c.push.new.self.items ids c.loop-id.id-index c.count_before-count.result _ c.loop-id-test.true pushed c.loop-id.invariant.ids;
      counts = counted_next (Reaches graph.gone graph.received graph.arcs) ids (all_there graph.gone graph.received) c.loop-id.ranks.items c.push.new.self.items c.count_before-count.result _ same pushed c.loop-id.invariant.counts c.count_before-count.ensures;
    }
