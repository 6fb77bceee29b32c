use Rattle.std.proofs.Common.{ltb, rules}
use Rattle.std.proofs.lemmas.List.Sorted.{IsPartitionPoint-from_clause, IsPartitionedBy-ltb}
use Rattle.order_check.proofs.Parted.{take-passing, drop-passing}
use Rattle.order_check.proofs.RisingLists.{keys_do_not_fall}
use Rattle.order_check.proofs.rising.count_below.Goals as goal

pub returns-clause-front : goal.returns-clause-front
returns-clause-front c =
    let parted = IsPartitionedBy-ltb (λ e. e.0) c.args.entries.now c.args.key (keys_do_not_fall c.args.entries.now c.requires) in
    let point = IsPartitionPoint-from_clause (λ e. ltb e.0 c.args.key) _ _ c.partition_point.ensures.partitioned parted (λ a r q k. search rules) in
    take-passing (λ e. ltb e.0 c.args.key) c.args.entries.now c.partition_point.result point c.partition_point.ensures.bound

pub returns-clause-rest : goal.returns-clause-rest
returns-clause-rest c =
    let parted = IsPartitionedBy-ltb (λ e. e.0) c.args.entries.now c.args.key (keys_do_not_fall c.args.entries.now c.requires) in
    let point = IsPartitionPoint-from_clause (λ e. ltb e.0 c.args.key) _ _ c.partition_point.ensures.partitioned parted (λ a r q k. search rules) in
    drop-passing (λ e. ltb e.0 c.args.key) c.args.entries.now c.partition_point.result point
