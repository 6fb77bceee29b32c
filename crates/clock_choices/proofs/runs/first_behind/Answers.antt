use Rattle.clock_choices.proofs.Numbers.{first_third, none_from, two_from}
use Rattle.std.proofs.Common.{rules, arith}
use Rattle.clock_choices.proofs.runs.first_behind.Goals as goal

pub returns-then-ne-2 : goal.returns-then-ne-2
returns-then-ne-2 c = λ bound are. first_third c.args.session c.args.numbers.now c.args.reader c.args.writer bound c.args.count c.requires are c.loop-place.place (omega arith) (omega arith) (two_from c.args.session c.args.numbers.now c.args.reader c.args.writer bound c.args.count c.requires are c.loop-place.place c.loop-place.invariant) (search rules) (search rules)

pub returns : goal.returns
returns c = λ bound are. none_from c.args.session c.args.numbers.now c.args.reader c.args.writer bound c.args.count c.requires are (λ k from within high. two_from c.args.session c.args.numbers.now c.args.reader c.args.writer bound c.args.count c.requires are c.loop-place.place c.loop-place.invariant k from (omega arith) high)
