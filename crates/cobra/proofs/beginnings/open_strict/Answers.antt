use Rattle.std.proofs.Common.{ℕ, Some, ap, refl, subst, sym, ◌∙◌}
use Rattle.strict_offers.specs.Offers.{OfferedState, AreBounds, nothing_offered}
use Rattle.cobra.specs.declared.stages.Stage.TheVariants as stage
use Rattle.cobra.proofs.Openings.{version_bounds}
use Rattle.cobra.proofs.beginnings.open_strict.Goals as goal

pub open-requires : goal.open-requires
open-requires c =
    subst (λ (n : ℕ). AreBounds n c.args.sessions c.args.limit) (sym c.most_sessions.ensures) (version_bounds c.args.version c.args.sessions c.args.limit c.in_default.ensures.ok)

pub returns-in-Ok : goal.returns-in-Ok
returns-in-Ok c =
    (c.in_default.ensures.ok, ap (λ (offered : OfferedState). Some (stage.Strict offered c.args.version)) (c.in-Ok.ensures ∙ ap (λ (n : ℕ). nothing_offered n c.args.sessions c.args.limit) c.most_sessions.ensures))

pub returns-in-Err-open : goal.returns-in-Err-open
returns-in-Err-open c = (c.in_default.ensures.ok, refl)
