use Rattle.settle.proofs.finding.find_known.Goals as goal

pub last_cut-requires-clause-fences : goal.last_cut-requires-clause-fences
last_cut-requires-clause-fences c = λ id there. (c.in_ok-fences.ensures.members id).0 there
