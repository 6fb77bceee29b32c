use Rattle.log_text.proofs.building.put_item.Goals as goal

pub returns-in-Force-clause-some : goal.returns-in-Force-clause-some
returns-in-Force-clause-some c = rw c.in-Force.is c.put_step.ensures.some
