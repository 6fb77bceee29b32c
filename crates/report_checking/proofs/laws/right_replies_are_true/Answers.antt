use Rattle.report_checking.proofs.Standing.{steps_on}
use Rattle.report_checking.proofs.TrueReplies.{are_true}
use Rattle.report_checking.proofs.laws.right_replies_are_true.Goals as goal

pub returns : goal.returns
returns c = are_true (record {
  isolating = record {
    steps = steps_on (record {
      steps = c.steps_hold_behind.ensures;
      offers = c.offer_keeps_stands_for.ensures;
      joins = c.join_keeps_stands_for.ensures;
      returns = c.return_keeps_stands_for.ensures;
      closes = c.close_keeps_stands_for.ensures;
      settled = c.settled_stays_settled.ensures;
      cuts = c.cut_keeps_stands_for.ensures;
    });
    events = c.reported_events_stand_behind.ensures;
    follow = c.split_steps_follow.ensures;
    committed = c.committed_are_of_commits.ensures;
    halving = c.halved_counts_are_whole.ensures;
  };
  orders = c.reported_orders_stand_behind.ensures;
  fresh_behind = c.fresh_engines_hold_behind.ensures;
  halves = c.halves_are_told_behind.ensures;
  nothing = c.nothing_is_split.ensures;
  remains = c.stands_for_what_remains.ensures;
  rest = c.held_is_kept.ensures;
})
