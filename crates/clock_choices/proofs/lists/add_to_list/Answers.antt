use Rattle.clock_choices.proofs.Adding.{list_added}
use Rattle.clock_choices.proofs.lists.add_to_list.Goals as goal

pub returns : goal.returns
returns g c = list_added c.args.lists.now c.take_list-list.new.lists c.put_list.new.lists c.args.key c.args.item c.take_list-list.result.items c.push.new.self.items c.take_list-list.ensures.taken c.take_list-list.ensures.others c.in_ok-push.ensures.items c.in_ok-put_list.ensures.put c.in_ok-put_list.ensures.others
