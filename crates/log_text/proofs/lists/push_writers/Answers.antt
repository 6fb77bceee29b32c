use Rattle.log_text.specs.Saved.{writer_data}
use Rattle.log_text.proofs.GainedData.{gains_elements}
use Rattle.log_text.proofs.lists.push_writers.Goals as goal

pub returns : goal.returns
returns c = gains_elements writer_data _ _ c.loop-key.list c.args.writers.now _ c.loop-key.invariant c.loop-key-test.false c.in_ok-push.ensures.items
