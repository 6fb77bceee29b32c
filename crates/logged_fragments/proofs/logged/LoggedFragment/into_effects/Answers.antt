use Rattle.logged_fragments.proofs.WellFormedEffects.{effects_formed}
use Rattle.logged_fragments.proofs.logged.LoggedFragment.into_effects.Goals as goal

pub returns-clause-formed : goal.returns-clause-formed
returns-clause-formed c = λ sessions. effects_formed sessions c.args.self.fragment c.as_slice.result.now c.make_idle.new.txns c.make_idle.ensures
