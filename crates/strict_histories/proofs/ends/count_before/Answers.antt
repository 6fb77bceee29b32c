use Rattle.std.proofs.Common.{ltb, rules}
use Rattle.std.proofs.lemmas.List.Sorted.{IsPartitionPoint-from_clause, IsPartitionedBy-ltb}
use Rattle.strict_histories.proofs.KnownEnds.{take-passing}
use Rattle.strict_histories.proofs.ends.count_before.Goals as goal

pub returns-clause-front : goal.returns-clause-front
returns-clause-front c =
    let parted = IsPartitionedBy-ltb (λ e. e.0) c.args.ends.now c.args.time c.requires in
    let point = IsPartitionPoint-from_clause (λ e. ltb e.0 c.args.time) _ _ c.partition_point.ensures.partitioned parted (λ a r q k. search rules) in
    take-passing (λ e. ltb e.0 c.args.time) c.args.ends.now c.partition_point.result point c.partition_point.ensures.bound
