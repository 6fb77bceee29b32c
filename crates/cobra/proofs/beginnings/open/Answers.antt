use Rattle.std.proofs.Common.{Some, ap, refl, ◌∙◌}
use Rattle.log_text.specs.Versions.{most_sessions}
use Rattle.cobra.specs.Audits.{AuditState, unsearched}
use Rattle.cobra.specs.declared.stages.Stage.TheVariants as stage
use Rattle.cobra.proofs.Openings.{opened_holds, opened_is, opening_refusal}
use Rattle.cobra.proofs.beginnings.open.Goals as goal

pub returns-in-Ok : goal.returns-in-Ok
returns-in-Ok c =
    let many = c.most_sessions-most.ensures ∙ ap most_sessions c.version.ensures in (
      c.in_default.ensures.ok,
      ap (λ (audit : AuditState). Some (stage.Open audit c.args.opening))
          (c.new-audit.ensures ∙ ap unsearched (c.in-Ok.ensures.ok ∙ opened_is c.args.opening c.most_sessions-most.result c.args.sessions c.args.limit c.room_of.result many c.room_of.ensures)),
      opened_holds c.args.opening c.most_sessions-most.result c.args.sessions c.args.limit c.room_of.result many c.room_of.ensures c.in-Ok.ensures.holds,
    )

pub returns-in-Err-open : goal.returns-in-Err-open
returns-in-Err-open c =
    let many = c.most_sessions-most.ensures ∙ ap most_sessions c.version.ensures in
    (opening_refusal c.args.opening c.most_sessions-most.result c.args.sessions c.args.limit c.room_of.result c.in-Err-open.refusal many c.room_of.ensures c.in_default.ensures.ok c.in-Err-open.ensures.err, refl)
