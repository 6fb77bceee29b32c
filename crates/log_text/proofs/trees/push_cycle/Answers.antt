use Rattle.log_text.specs.Told.{arc_data}
use Rattle.log_text.proofs.GainedData.{gains_elements}
use Rattle.log_text.proofs.trees.push_cycle.Goals as goal

pub returns : goal.returns
returns c = gains_elements (arc_data c.args.names) _ _ c.loop-arc.list c.args.arcs.now _ c.loop-arc.invariant c.loop-arc-test.false c.in_ok-push.ensures.items
