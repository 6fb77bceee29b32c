use Rattle.demonstration.proofs.Audits.{has_audited}
use Rattle.demonstration.proofs.auditing.audit.Goals as goal

pub returns-clause-audited : goal.returns-clause-audited
returns-clause-audited g c =
    let audit = c.audit_live in let side = audit.new.side in
    has_audited audit.result side.pass.1 side.sender.sent (audit.ensures.live 64 4 4096 c.requires.holds) audit.ensures.ended (audit.ensures.true_reports 64 4 4096 c.requires.holds) (audit.ensures.last 64 4 4096 c.requires.holds)
