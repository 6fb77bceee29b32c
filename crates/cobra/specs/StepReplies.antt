-- How the replies to an engine's steps are told.
use Rattle.std.specs.FinMap as map
use Rattle.log_text.specs.declared.names.Names.TheVariants.{Ids}
use Rattle.log_text.specs.declared.replies.Reply.{Reply}
use Rattle.log_text.specs.declared.replies.Reply.TheVariants as told
use Rattle.log_text.specs.declared.shown.Shown.{Shown}
use Rattle.log_text.specs.declared.shown.Shown.TheVariants as shown
use Rattle.round_state.specs.declared.reports.Certificate.{Certificate}
use Rattle.round_state.specs.declared.reports.Certificate.TheVariants.{Order, Refuted, Nothing}
use Rattle.round_state.specs.declared.reports.Report.{Report}
use Rattle.round_state.specs.declared.steps.Claim.{Claim}
use Rattle.round_state.specs.declared.steps.Claim.TheVariants as claim
use Rattle.round_state.specs.declared.steps.StepReply.{StepReply}
use Rattle.round_state.specs.declared.steps.StepReply.TheVariants as reply
use Rattle.settle.specs.declared.cuts.Cut.{Cut}

-- what a line shows, as the engine judges it
abbrev pub claim_of : Shown → Claim
claim_of (shown.Order order) = claim.Order order
claim_of (shown.Refuted tree) = claim.Refuted tree

-- a report with this certificate
abbrev pub certified : Report → Certificate → Reply
certified report (Order order) = told.Order Ids report.round report.kind report.counts order
certified report (Refuted tree) = told.Violated Ids report.round report.counts tree
certified report Nothing = told.Spent report.round report.counts

abbrev pub report_of : Report → Reply
report_of report = certified report report.certificate

-- a cut: the last writers of its keys, keys rising
abbrev pub cut_of : Cut → Reply
cut_of cut = told.Cut cut.fence cut.gone (map.entries cut.last)

abbrev pub reply_of : StepReply → Reply
reply_of reply.Done = told.Done
reply_of (reply.Refused refusal) = told.No refusal
reply_of (reply.Report report) = report_of report
reply_of (reply.Cut cut) = cut_of cut
