use Rattle.clock_choices.proofs.Numbers.{last_third, none_below, two_below}
use Rattle.std.proofs.Common.{◌-◌, rules, arith}
use Rattle.clock_choices.proofs.runs.last_in.Goals as goal

pub returns-then-ne-2 : goal.returns-then-ne-2
returns-then-ne-2 c = λ bound are. last_third c.args.session c.args.numbers.now c.args.reader c.args.writer bound c.args.count c.requires.climbs are (c.loop-place.place - 1) (omega arith) (λ k from within low. two_below c.args.session c.args.numbers.now c.args.reader c.args.writer bound c.args.count c.requires.climbs are c.loop-place.place c.loop-place.invariant k (omega arith) within low) (search rules) (search rules)

pub returns : goal.returns
returns c = λ bound are. none_below c.args.session c.args.numbers.now c.args.reader c.args.writer bound c.args.count c.requires.climbs are (λ k from within low. two_below c.args.session c.args.numbers.now c.args.reader c.args.writer bound c.args.count c.requires.climbs are c.loop-place.place c.loop-place.invariant k (omega arith) within low)
