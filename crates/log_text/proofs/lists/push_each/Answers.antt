use Rattle.log_text.specs.Saved.{number_data}
use Rattle.log_text.proofs.GainedData.{gains_value, gains_more}
use Rattle.log_text.proofs.lists.push_each.Goals as goal

pub loop-number-preserved : goal.loop-number-preserved
loop-number-preserved c =
    gains_more number_data _ _ _ c.args.numbers.now c.loop-number.number-index 0 c.loop-number.invariant c.loop-number-test.true (gains_value _ _ _ _ c.in_ok-push.ensures.items c.from.ensures)
