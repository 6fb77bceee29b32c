use Rattle.shared_search.proofs.Pooling.{begins}
use Rattle.shared_search.proofs.seats.Board.new.Goals as goal

pub of_words-requires : goal.of_words-requires
of_words-requires c = begins _ _ c.requires.cubes c.requires.seats.1
