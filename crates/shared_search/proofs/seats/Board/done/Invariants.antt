use Rattle.shared_search.proofs.seats.Board.done.Given as goal

abbrev pub ghosts-answer : goal.ghosts-answer
ghosts-answer a = record { cube = a.cube }
