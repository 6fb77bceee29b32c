use Rattle.std.proofs.Common.{◌∙◌, sym, subst, nat_lt}
use Rattle.order_check.specs.Rising.{IsRising}
use Rattle.order_check.proofs.RisingLists.{rising-filter}
use Rattle.order_check.proofs.first_entries.below.Goals as goal

pub returns-clause-rising : goal.returns-clause-rising
returns-clause-rising c = subst IsRising (sym (c.in_front.ensures ∙ c.count_below.ensures.front)) (rising-filter (λ e. nat_lt e.0 c.args.key) c.args.entries.now c.requires)
