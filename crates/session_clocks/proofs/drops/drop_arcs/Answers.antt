use Rattle.std.proofs.Common.{rules}
use Rattle.std.proofs.lemmas.Fn.{filter_same}
use Rattle.session_clocks.specs.Drops.{arc_stays}
use Rattle.session_clocks.proofs.drops.drop_arcs.Goals as goal

pub returns : goal.returns
returns c = filter_same _ (arc_stays c.args.gone.now) _ (λ arc keep f called. search rules) _ _ c.retain.ensures.filtered
