use Rattle.std.proofs.Common.{◌∙◌, sym, subst, not, nat_lt}
use Rattle.order_check.specs.Rising.{IsRising}
use Rattle.order_check.proofs.RisingLists.{rising-filter}
use Rattle.order_check.proofs.first_entries.from.Goals as goal

pub returns-clause-rising : goal.returns-clause-rising
returns-clause-rising c = subst IsRising (sym (c.behind.ensures ∙ c.count_below.ensures.rest)) (rising-filter (λ e. not (nat_lt e.0 c.args.key)) c.args.entries.now c.requires)
