use Rattle.cobra.proofs.KeptRests.{rest_kept}
use Rattle.cobra.proofs.laws.held_is_kept.Goals as goal

pub returns : goal.returns
returns c = rest_kept (record {
  settled = c.settled_stays_settled.ensures;
  fits = c.cuts_of_fronts_fit.ensures;
  stands = c.cut_keeps_stands_for.ensures;
  moves = c.cuts_move_on.ensures;
})
