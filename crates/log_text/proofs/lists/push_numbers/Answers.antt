use Rattle.std.proofs.Common.{map}
use Rattle.log_text.specs.Saved.{number_data}
use Rattle.log_text.proofs.GainedData.{gains_filled}
use Rattle.log_text.proofs.lists.push_numbers.Goals as goal

pub returns : goal.returns
returns c = gains_filled _ _ _ _ (map number_data c.args.numbers.now) c.new-list.ensures.items c.in_ok-push_each.ensures c.in_ok-push.ensures.items
