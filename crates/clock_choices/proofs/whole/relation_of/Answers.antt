use Rattle.clock_choices.proofs.whole.relation_of.Goals as goal

pub bring_all-requires-clause-ids : goal.bring_all-requires-clause-ids
bring_all-requires-clause-ids c =
    let same = rw c.deref-2.ensures.value at c.in_ok-spread.ensures in
    let all = c.in_ok-ids.ensures.members in
    rw c.deref-3.ensures.value (λ id. ((λ there. (all id).0 ((same id).0 there)), (λ remains. (same id).1 ((all id).1 remains))))
