use Rattle.cobra.proofs.StrictReports.{each_strict_report}
use Rattle.cobra.proofs.laws.each_strict_report_is_true.Goals as goal

pub returns : goal.returns
returns c = each_strict_report c.offers_stay_good.ensures c.right_reports_are_strict.ensures
