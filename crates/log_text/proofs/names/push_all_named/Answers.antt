use Rattle.log_text.specs.Told.{named_id_data}
use Rattle.log_text.proofs.GainedData.{gains_elements}
use Rattle.log_text.proofs.names.push_all_named.Goals as goal

pub returns : goal.returns
returns c = gains_elements (named_id_data c.args.names) _ _ c.loop-id.list c.args.ids.now _ c.loop-id.invariant c.loop-id-test.false c.in_ok-push.ensures.items
