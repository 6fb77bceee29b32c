use Rattle.std.proofs.Common.{◌≡◌, take}
use Rattle.clock_choices.specs.Ranks.{ids_of}
use Rattle.polygraph.proofs.ordering.ids_among.Given as goal

abbrev pub invariant-loop-rank : goal.invariant-loop-rank
invariant-loop-rank l = l.ids.items ≡ ids_of (take l.rank-index l.ranks)
