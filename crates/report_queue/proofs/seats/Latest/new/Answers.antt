use Rattle.report_queue.proofs.Keeps.{begins}
use Rattle.report_queue.proofs.seats.Latest.new.Goals as goal

pub of_words-requires : goal.of_words-requires
of_words-requires c = begins
