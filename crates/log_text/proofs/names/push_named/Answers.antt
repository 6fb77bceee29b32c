use Rattle.log_text.specs.Told.{name_data}
use Rattle.log_text.proofs.GainedData.{gains_filled}
use Rattle.log_text.proofs.names.push_named.Goals as goal

pub returns : goal.returns
returns c = gains_filled _ _ _ _ (name_data c.args.names c.args.id) c.new-list.ensures.items c.in_ok-push_name.ensures c.in_ok-push.ensures.items
