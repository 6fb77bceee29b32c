use Rattle.strict_rounds.proofs.Reporting.{strict_reports}
use Rattle.strict_rounds.proofs.laws.right_reports_are_strict.Goals as goal

pub returns : goal.returns
returns c = strict_reports (record {
  orders = c.orders_as_of_whole.ensures;
  verdicts = c.verdict_as_of_whole.ensures;
  counts = c.rewriting_keeps_counts.ensures;
  verdict = c.rewriting_keeps_verdict.ensures;
  same = c.same_orders_rewritten.ensures;
  parts = c.rounds_are_of_good_parts.ensures;
})
