use Rattle.std.proofs.Common.{vec_len}
use Rattle.guided_search.proofs.searching.go_up.Given as goal

abbrev pub decreases-loop-split : goal.decreases-loop-split
decreases-loop-split l = vec_len l.search.splits
