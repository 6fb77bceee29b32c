use Rattle.refutation.proofs.pruned.Pruned.leaf.Goals as goal

pub returns-clause-stands : goal.returns-clause-stands
returns-clause-stands c parts taken closed = let h = c.in_ok-used.ensures parts taken closed in record { right = h.0; among = h.1 }
