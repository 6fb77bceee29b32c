use Rattle.std.proofs.Common.{arith}
use Rattle.clock_choices.proofs.Growths.{other_there}
use Rattle.clock_choices.proofs.settling.forced_before.Goals as goal

pub returns-then-bound-done : goal.returns-then-bound-done
returns-then-bound-done c = λ other found ready.
    let there = other_there c.args.graph.now.gone c.args.graph.now.received c.args.read c.args.run.now c.requires.run other found in
    let at = (c.before-bound.ensures.exact other found.same there).1 ready in
    let few = c.if-bound-done.true in
    (c.before-done.ensures.exact other found.same there).0 (omega (arith, at, few))

pub returns : goal.returns
returns c =
    let one = c.in-Some.last in
    let is = rw c.as_slice-numbers.ensures.value at (c.in-Some.ensures c.before-bound.result c.count_below-count.ensures) in
    let there = other_there c.args.graph.now.gone c.args.graph.now.received c.args.read c.args.run.now c.requires.run in
    record {
      found = is.third;
      ready = (c.before-bound.ensures.exact one is.third.same (there one is.third)).0 is.below;
      new = λ taken. let at = (c.before-done.ensures.exact one is.third.same (there one is.third)).1 taken in let not = c.if-last-done.false in omega (arith, at, not);
      others = λ other found ready. is.each other found ((c.before-bound.ensures.exact other found.same (there other found)).1 ready);
    }

pub returns-then-last-done : goal.returns-then-last-done
returns-then-last-done c = λ other found ready.
    let there = other_there c.args.graph.now.gone c.args.graph.now.received c.args.read c.args.run.now c.requires.run other found in
    let is = rw c.as_slice-numbers.ensures.value at (c.in-Some.ensures c.before-bound.result c.count_below-count.ensures) in
    let at = is.each other found ((c.before-bound.ensures.exact other found.same there).1 ready) in
    let done = c.if-last-done.true in
    (c.before-done.ensures.exact other found.same there).0 (omega (arith, at, done))

pub returns-in_default : goal.returns-in_default
returns-in_default c = λ other found ready.
    let there = other_there c.args.graph.now.gone c.args.graph.now.received c.args.read c.args.run.now c.requires.run other found in
    let none = rw c.as_slice-numbers.ensures.value at (c.in_default.ensures c.before-bound.result c.count_below-count.ensures) in
    let past = none other found in
    let at = (c.before-bound.ensures.exact other found.same there).1 ready in
    absurd (omega (arith, past, at))
