use Rattle.std.proofs.Common.{subst, sym}
use Rattle.fragment_intake.specs.declared.rules.Item.{Item}
use Rattle.live_audit.specs.Takes.{TakesIn}
use Rattle.live_audit.proofs.Stepping.{offered, joined, closed}
use Rattle.live_audit.proofs.steps.take_in.Goals as goal

pub returns-in-Fragment-clause-taken : goal.returns-in-Fragment-clause-taken
returns-in-Fragment-clause-taken c =
    subst (λ (its : Item). TakesIn c.args.engine.now its c.offer.result c.offer.new.self) (sym c.in-Fragment.is) (offered c.args.engine.now c.offer.new.self c.in-Fragment.logged c.offer.result c.right_is_legal.ensures c.offer.ensures.ok c.offer.ensures.err)

pub returns-in-Join-clause-taken : goal.returns-in-Join-clause-taken
returns-in-Join-clause-taken c =
    subst (λ (its : Item). TakesIn c.args.engine.now its c.join.result c.join.new.self) (sym c.in-Join.is) (joined c.args.engine.now c.join.new.self c.in-Join.logged c.join.result c.right_is_legal.ensures c.join.ensures.ok c.join.ensures.err)

pub returns-in-Close-clause-taken : goal.returns-in-Close-clause-taken
returns-in-Close-clause-taken c =
    subst (λ (its : Item). TakesIn c.args.engine.now its c.close.result c.close.new.self) (sym c.in-Close.is) (closed c.args.engine.now c.close.new.self c.in-Close.session c.close.result c.right_is_legal.ensures c.close.ensures.ok c.close.ensures.err)
