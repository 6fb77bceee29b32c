use Rattle.isolation_scripts.proofs.Legality.{legal}
use Rattle.isolation_scripts.proofs.laws.split_steps_are_legal.Goals as goal

pub returns : goal.returns
returns c = legal (record {
  still = c.arrivals_can_be_split.ensures;
  doubles = c.split_doubles_counts.ensures;
  goes = c.split_goes_with_arrivals.ensures;
  keeps = c.split_keeps_verdict.ensures;
  effects = c.split_keeps_effects.ensures;
  can = c.effects_can_be_split.ensures;
})
