use Rattle.std.proofs.Common.{arith, get_or}
use Rattle.std.proofs.lemmas.Grind.{common_steps}
use Rattle.std.proofs.lemmas.List.Elements.{All-push}
use Rattle.demo_store.specs.Faults.{IsToldBut}
use Rattle.demo_store.specs.Logs.{IsSourceIn}
use Rattle.demo_store.proofs.stores.told.Goals as goal

pub loop-key-preserved : goal.loop-key-preserved
loop-key-preserved c =
    let key = get_or c.args.keys.now c.loop-key.key-index 0 in
    let kept = c.loop-key.invariant in
    let pushed = c.in_ok-push.ensures.ok in
    record {
      keys_are = grind (arith, common_steps);
      lies = λ lie is. rw pushed (All-push (IsToldBut c.args.log.now lie.key lie.source) c.loop-key.reads (key, c.told_source.result) (kept.lies lie is) (c.told_source.ensures.lies lie is));
      sources_are = λ none. rw pushed (All-push (λ read. IsSourceIn c.args.log.now read.0 read.1) c.loop-key.reads (key, c.told_source.result) (kept.sources_are none) (c.told_source.ensures.source none));
    }
