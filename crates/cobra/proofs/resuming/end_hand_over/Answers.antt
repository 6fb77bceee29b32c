use Rattle.std.proofs.Common.{ap, ◌∙◌}
use Rattle.cobra.specs.Audits.{unsearched}
use Rattle.cobra.specs.HandOver.{handed_parts}
use Rattle.cobra.specs.Audits.{AuditState}
use Rattle.cobra.specs.declared.stages.Stage.TheVariants as stage
use Rattle.cobra.proofs.Resumed.{holds_all}
use Rattle.cobra.proofs.resuming.end_hand_over.Goals as goal

pub returns-in-Ok : goal.returns-in-Ok
returns-in-Ok c = (
  c.in-Ok.ensures.ok.0,
  ap (λ (audit : AuditState). stage.Open audit c.args.opening) (c.new-audit.ensures ∙ ap unsearched c.in-Ok.ensures.ok.1),
  holds_all (handed_parts c.args.handed),
)
