use Rattle.cobra.proofs.TrueReports.{each_report}
use Rattle.cobra.proofs.laws.each_report_is_true.Goals as goal

pub returns : goal.returns
returns c = each_report (record {
  steps = c.split_steps_are_legal.ensures;
  fresh = c.fresh_engines_are_split.ensures;
  verdict = c.split_keeps_verdict.ensures;
  doubles = c.split_doubles_counts.ensures;
  isolate = c.orders_isolate.ensures;
  follow = c.split_steps_follow.ensures;
  nothing = c.nothing_is_split.ensures;
  committed = c.committed_are_of_commits.ensures;
  halving = c.halved_counts_are_whole.ensures;
  wholes = record { on = c.steps_go_on.ensures; ends = c.reported_orders_end_orders.ensures; past = c.steps_hold_behind.ensures; orders = c.reported_orders_stand_behind.ensures };
  fresh_on = c.fresh_engines_go_on.ensures;
  parts_on = c.left_parts_go_on.ensures;
  fresh_behind = c.fresh_engines_hold_behind.ensures;
  parts_behind = c.parts_hold_behind.ensures;
  halves = c.halves_are_told_behind.ensures;
  rest = c.held_is_kept.ensures;
})
