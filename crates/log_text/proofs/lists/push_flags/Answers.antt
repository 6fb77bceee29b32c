use Rattle.serde_json.specs.Data.{boolean}
use Rattle.log_text.proofs.GainedData.{gains_value, gains_elements, have_more}
use Rattle.log_text.proofs.lists.push_flags.Goals as goal

pub loop-flag-preserved : goal.loop-flag-preserved
loop-flag-preserved c =
    have_more boolean _ _ c.args.flags.now c.loop-flag.flag-index _ c.loop-flag.invariant c.loop-flag-test.true (gains_value _ _ _ _ c.in_ok-push.ensures.items c.from.ensures)

pub returns : goal.returns
returns c = gains_elements boolean _ _ c.loop-flag.list c.args.flags.now _ c.loop-flag.invariant c.loop-flag-test.false c.in_ok-push-2.ensures.items
