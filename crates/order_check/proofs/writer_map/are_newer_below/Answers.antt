use Rattle.order_check.proofs.writer_map.are_newer_below.Goals as goal

pub returns-clause-found : goal.returns-clause-found
returns-clause-found c = c.iter.ensures.found
