use Rattle.std.proofs.Common.{subst}
use Rattle.cobra.specs.Audits.{AuditState}
use Rattle.cobra.specs.Scripts.{IsRound}
use Rattle.cobra.proofs.audits.Audit.round.Goals as goal

pub returns-clause-round : goal.returns-clause-round
returns-clause-round g c =
    subst (λ (audit : AuditState). IsRound audit.engine c.args.effort.search c.args.effort.budget c.args.effort.depth c.args.effort.workers c.make_round-said.result c.make_round-said.new.engine) c.self.view_is c.make_round-said.ensures
