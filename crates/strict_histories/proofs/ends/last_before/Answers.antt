use Rattle.std.proofs.Common.{◌≡◌, ◌+◌, ◌-◌, ap, arith, sym, take, ◌∙◌}
use Rattle.strict_histories.proofs.KnownEnds.{last_found, none_before}
use Rattle.strict_histories.proofs.ends.last_before.Goals as goal

pub returns-then-count-eq0 : goal.returns-then-count-eq0
returns-then-count-eq0 c = sym (none_before c.args.time c.args.ends.now c.count_before-count.result c.count_before-count.ensures.front (omega arith))

pub returns : goal.returns
returns c =
    let count = c.count_before-count.result in
    let ends = c.args.ends.now in
    let same : count ≡ count - 1 + 1 = omega arith in
    sym (last_found c.args.time ends (count - 1) (0, 0) (ap (λ k. take k ends) (sym same) ∙ c.count_before-count.ensures.front) (omega (arith, c.count_before-count.ensures.within)))
