use Rattle.round_state.proofs.intake.effects_of.Goals as goal

pub returns-clause-effects : goal.returns-clause-effects
returns-clause-effects c = (c.into_effects.ensures.effects, c.into_effects.ensures.formed c.args.sessions c.in_ok-check_fragment.ensures)
