use Rattle.shared_search.proofs.lending.answer_to.Goals as goal

pub returns-in-Ok-clause-lawful : goal.returns-in-Ok-clause-lawful
returns-in-Ok-clause-lawful g c = rw c.parts.ensures.value at c.in-Ok.ensures.refutes
