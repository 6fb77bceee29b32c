use Rattle.std.proofs.Common.{ap, sym, ◌∙◌}
use Rattle.strict_histories.specs.Ends.{last_end}
use Rattle.strict_histories.proofs.KnownEnds.{none_found}
use Rattle.strict_histories.proofs.ends.last_end.Goals as goal

pub returns-in-None : goal.returns-in-None
returns-in-None c = sym (ap (λ began. last_end began c.args.ends.now) c.in-None.is ∙ none_found c.args.ends.now)
