use Rattle.std.proofs.Common.{rules}
use Rattle.std.proofs.lemmas.List.Sorted.{answers_always, IsNonDecreasingBy-from_sort}
use Rattle.std.proofs.lemmas.Result.{on_ok_weaker}
use Rattle.clock_choices.specs.declared.ranks.Rank.{Rank}
use Rattle.polygraph.proofs.ordering.sort_by_count.Goals as goal

pub returns-clause-sorted : goal.returns-clause-sorted
returns-clause-sorted c =
    let keys = answers_always _ _ _ (λ f a r next called. search rules) in
    on_ok_weaker c.sort_by_key.result
    (λ sorted. IsNonDecreasingBy-from_sort (λ (rank : Rank). rank.count) _ (sorted (λ (rank : Rank). rank.count) keys))
    c.sort_by_key.ensures.sorted

pub returns-clause-stable : goal.returns-clause-stable
returns-clause-stable c =
    let keys = answers_always _ _ _ (λ f a r next called. search rules) in
    c.sort_by_key.ensures.stable (λ (rank : Rank). rank.count) keys
